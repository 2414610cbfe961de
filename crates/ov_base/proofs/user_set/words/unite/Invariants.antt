use Rattle.std.proofs.Common.{◌≡◌, ◌≤◌, bit_or, ℕ, ◌<◌, get_or}
use Rattle.ov_base.proofs.user_set.words.unite.Given as goal

abbrev pub invariant-loop-i : goal.invariant-loop-i
invariant-loop-i l = ((k : ℕ) → k < l.i → get_or l.words k 0 ≡ bit_or (get_or l.initial.words k 0) (get_or l.other k 0)) × ((k : ℕ) → l.i ≤ k → get_or l.words k 0 ≡ get_or l.initial.words k 0)
