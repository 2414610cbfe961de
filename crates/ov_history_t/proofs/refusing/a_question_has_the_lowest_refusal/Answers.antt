use Rattle.ov_history_t.proofs.RefusalWords.{lists_are_refused, reads_are_refused}
use Rattle.ov_history_t.proofs.refusing.a_question_has_the_lowest_refusal.Goals as goal

pub returns : goal.returns
returns c = record { reads = reads_are_refused; lists = lists_are_refused }
