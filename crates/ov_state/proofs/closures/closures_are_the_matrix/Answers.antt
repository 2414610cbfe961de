use Rattle.ov_state.proofs.HistoryLaws.{closures_are_matrix}
use Rattle.ov_state.proofs.closures.closures_are_the_matrix.Goals as goal

pub returns : goal.returns
returns c = closures_are_matrix
