-- The bytes below the index are XORed, and those from it on are as they were.
use Rattle.std.proofs.Common.{◌≡◌, ◌<◌, ◌≤◌, ℕ, bit_xor, get_or, length}
use Rattle.ov_tokens.proofs.token.xor.Given as goal

abbrev pub invariant-loop-i : goal.invariant-loop-i
invariant-loop-i l = record {
  whole : length l.both ≡ 32;
  xored : (k : ℕ) → k < l.i → get_or l.both k 0 ≡ bit_xor (get_or l.bytes k 0) (get_or l.others k 0);
  as_before : (k : ℕ) → l.i ≤ k → get_or l.both k 0 ≡ get_or l.bytes k 0;
}
