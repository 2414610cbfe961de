use Rattle.ov_history.proofs.MadeFor.{sets_are_of_lists}
use Rattle.ov_history.proofs.words.base_sets_are_of_lists.Goals as goal

pub returns : goal.returns
returns c = sets_are_of_lists
