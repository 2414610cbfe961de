-- Inner: no public contract needs this. The pad over the first of the bytes that a call has left.
use Rattle.std.specs.Prelude.{◌≡◌, ◌<◌, ◌≤◌, ◌+◌, ℕ, List, length, slice_index, bit_xor}
use Rattle.ov_ctr.specs.Ctr.{pad_byte}

-- the first `count` bytes of old, at least one, are XOR the pad's bytes at their places, the
-- first of which is `place`; the bytes after them stay
pub record PadsFirst (key : List ℕ) (tag file place count : ℕ) (old new : List ℕ) : Type 0 where
  pub some : 0 < count
  pub within : count ≤ length old
  pub applied : (i : ℕ) → i < count
      → slice_index new i ≡ bit_xor (slice_index old i) (pad_byte key tag file (place + i))
  pub after : (i : ℕ) → count ≤ i → slice_index new i ≡ slice_index old i
