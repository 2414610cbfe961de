use Rattle.std.proofs.Common.{◌≡◌, ℕ, ◌<◌, ◌≤◌, ◌*◌, ◌/◌, ◌%◌, [], length, get_or, bit_xor}
use Rattle.ov_ctr.proofs.four.add_four.Given as goal

abbrev pub invariant-loop-n : goal.invariant-loop-n
invariant-loop-n l = record {
  long : length l.piece ≡ 64;
  before : (k : ℕ) → k < 16 * l.n → get_or l.piece k 0 ≡ bit_xor (get_or l.initial.piece k 0) (get_or (get_or l.pads (k / 16) []) (k % 16) 0);
  after : (k : ℕ) → 16 * l.n ≤ k → get_or l.piece k 0 ≡ get_or l.initial.piece k 0;
}
