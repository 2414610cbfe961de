use Rattle.std.proofs.Common.{arith, rules}
use Rattle.ov_load.proofs.load_words.count_of.Goals as goal
use Rattle.ov_load.proofs.Asking.{no_count}
use Rattle.ov_load.proofs.load_words.count_of.Goals.{then-count-eq0-via-then-count-eq0, then-count-eq0-via-else-count-eq0+then-count-from}

pub returns-then-count-eq0-clause-none : goal.returns-then-count-eq0-clause-none
returns-then-count-eq0-clause-none c = λ count some most is.
    let in_range = no_count c.args.word.now c.in_ok-count.count count (search rules) c.in_ok-count.ensures.found some most is in
    elim c.then-count-eq0.branch [
      | then-count-eq0-via-then-count-eq0 w ↦ absurd (omega (arith, in_range.0, w.if-count-eq0))
      | then-count-eq0-via-else-count-eq0+then-count-from w ↦ absurd (omega (arith, in_range.1, w.if-count-from, w.from.ensures))
    ]
