-- Counter mode (SP 800-38A, section 6.5) over AES-256, with counter blocks of this layout: a tag,
-- three zero bytes, the file's number in 4 bytes and the block's number in 8, both with the highest
-- byte first.
use Rattle.std.specs.Prelude.{ℕ, ◌+◌, ◌/◌, ◌%◌, List, [], ◌∷◌, ◌++◌, bit_xor, slice_index}
use Rattle.std.specs.Int.{w32, w64, to_be_bytes}
use Rattle.ov_aes.specs.Aes.{aes256}

-- 6.5: the counter block of a file's block, whose number is counted from 0
abbrev pub counter_block : ℕ → ℕ → ℕ → List ℕ
counter_block tag file number = tag ∷ 0 ∷ 0 ∷ 0 ∷ (to_be_bytes w32 file ++ to_be_bytes w64 number)

-- 6.5: the pad's byte at a place of the file, from the cipher of the counter block of its block
unfoldable pub pad_byte : List ℕ → ℕ → ℕ → ℕ → ℕ
pad_byte key tag file place =
    slice_index (aes256 key (counter_block tag file (place / 16))) (place % 16)

-- 6.5: the bytes, the first of which is at the place start, each XOR the pad's byte at its place
unfoldable pub xor_pad : List ℕ → ℕ → ℕ → ℕ → List ℕ → List ℕ
xor_pad key tag file start [] = []
xor_pad key tag file start (b ∷ bs) =
    bit_xor b (pad_byte key tag file start) ∷ xor_pad key tag file (start + 1) bs
