use Rattle.std.proofs.Common.{◌≡◌, ℕ, ◌<◌, ◌≤◌, ◌+◌, ◌-◌, length, get_or, bit_xor}
use Rattle.ov_ctr.specs.Ctr.{pad_byte}
use Rattle.ov_ctr.proofs.apply.apply_lanes.Given as goal

abbrev pub invariant-loop-done : goal.invariant-loop-done
invariant-loop-done l = record {
  within : l.done ≤ length l.buf;
  before : (k : ℕ) → k < l.done → get_or l.buf k 0 ≡ bit_xor (get_or l.initial.buf k 0) (pad_byte l.key l.tag l.file (l.start + k));
  after : (k : ℕ) → l.done ≤ k → get_or l.buf k 0 ≡ get_or l.initial.buf k 0;
}

abbrev pub decreases-loop-done : goal.decreases-loop-done
decreases-loop-done l = length l.initial.buf - l.done
