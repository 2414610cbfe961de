use Rattle.std.proofs.Common.{◌≡◌, ℕ, ◌<◌, ◌≤◌, ◌+◌, ◌*◌, length, get_or, bit_xor}
use Rattle.ov_ctr.specs.Ctr.{pad_byte}
use Rattle.ov_ctr.proofs.four.apply_groups.Given as goal

abbrev pub invariant-loop-g : goal.invariant-loop-g
invariant-loop-g l = record {
  long : length l.piece ≡ length l.initial.piece;
  before : (k : ℕ) → k < 64 * l.g → get_or l.piece k 0 ≡ bit_xor (get_or l.initial.piece k 0) (pad_byte l.aes l.tag l.file (16 * l.number + k));
  after : (k : ℕ) → 64 * l.g ≤ k → get_or l.piece k 0 ≡ get_or l.initial.piece k 0;
}
