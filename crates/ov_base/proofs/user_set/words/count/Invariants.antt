use Rattle.std.proofs.Common.{◌≡◌, ◌≤◌, ◌*◌, take}
use Rattle.std.specs.Prelude.{sum_by}
use Rattle.std.specs.Int.Count.{ones}
use Rattle.ov_base.proofs.user_set.words.count.Given as goal

abbrev pub invariant-loop-word : goal.invariant-loop-word
invariant-loop-word l = record { total : l.count ≡ sum_by ones (take l.word-index l.words); bound : l.count ≤ 64 * l.word-index }
