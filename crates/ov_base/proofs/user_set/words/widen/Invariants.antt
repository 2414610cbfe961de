use Rattle.std.proofs.Common.{◌≡◌, ◌≤◌, ◌<◌, ℕ, get_or, length}
use Rattle.ov_base.proofs.user_set.words.widen.Given as goal

abbrev pub invariant-loop-i : goal.invariant-loop-i
invariant-loop-i g l =
    (length l.wide ≡ g.row.V)
    × ((k : ℕ) → k < l.i → get_or l.wide k 0 ≡ get_or l.words k 0)
    × ((k : ℕ) → l.i ≤ k → get_or l.wide k 0 ≡ 0)
