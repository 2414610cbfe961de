use Rattle.ov_history_t.proofs.StepPlaces.{moves_behind_the_step, stays_before_the_step}
use Rattle.ov_history_t.proofs.formats.a_step_record_moves_the_places_behind_it.Goals as goal

pub returns-clause-before : goal.returns-clause-before
returns-clause-before c = stays_before_the_step

pub returns-clause-behind : goal.returns-clause-behind
returns-clause-behind c = moves_behind_the_step
