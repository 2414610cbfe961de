use Rattle.std.proofs.Common.{◌≡◌, ℕ, ◌<◌, ◌≤◌, ◌+◌, get_or, bit_xor}
use Rattle.ov_ctr.proofs.apply.add_pad.Given as goal

abbrev pub invariant-loop-i : goal.invariant-loop-i
invariant-loop-i l =
    ((k : ℕ) → k < l.i → get_or l.piece k 0 ≡ bit_xor (get_or l.initial.piece k 0) (get_or l.pad (l.skip + k) 0))
    × ((k : ℕ) → l.i ≤ k → get_or l.piece k 0 ≡ get_or l.initial.piece k 0)
