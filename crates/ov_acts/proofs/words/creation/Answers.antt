use Rattle.ov_acts.proofs.Lines.{three_words}
use Rattle.ov_acts.proofs.words.creation.Goals as goal

pub returns-in-None-clause-none : goal.returns-in-None-clause-none
returns-in-None-clause-none c = λ act path other is.
    let words = three_words act _ _ _ path other is in
    (rw c.in-None.is at c.in_ok-list.ensures.none) words.2.0 words.2.1
