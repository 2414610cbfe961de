use Rattle.ov_history_t.proofs.RefusalWords.{updates_are_refused}
use Rattle.ov_history_t.proofs.refusing.an_update_has_the_lowest_refusal.Goals as goal

pub returns : goal.returns
returns c = updates_are_refused
