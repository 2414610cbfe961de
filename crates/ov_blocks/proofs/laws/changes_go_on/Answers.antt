use Rattle.ov_blocks.proofs.Changes.{changes_go_on}
use Rattle.ov_blocks.proofs.laws.changes_go_on.Goals as goal

pub returns : goal.returns
returns c = changes_go_on
