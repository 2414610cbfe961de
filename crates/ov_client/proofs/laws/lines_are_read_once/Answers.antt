use Rattle.ov_client.proofs.KeyLines.{lines_once}
use Rattle.ov_client.proofs.laws.lines_are_read_once.Goals as goal

pub returns : goal.returns
returns c = lines_once
