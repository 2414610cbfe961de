-- HMAC of RFC 2104 with SHA-256 of FIPS 180-4, for keys of at most one block of 64 bytes.
use Rattle.std.specs.Prelude.{ℕ, List, length, ◌++◌, ◌-◌, map, replicate, bit_xor}
use Rattle.sha2.specs.Sha256.{sha256}

-- the key, filled with zeros to the block of B = 64 bytes (RFC 2104, section 2, step 1)
abbrev pub block_key : List ℕ → List ℕ
block_key key = key ++ replicate (64 - length key) 0

-- the block of the key XORed with one byte repeated: 0x36 is ipad, 0x5c is opad (section 2, steps 2
-- and 5)
abbrev pub pad : ℕ → List ℕ → List ℕ
pad byte key = map (λ b. bit_xor b byte) (block_key key)

-- the digest of the outer block and of the digest of the inner block and the message (section 2,
-- steps 3, 4, 6 and 7)
unfoldable pub hmac : List ℕ → List ℕ → List ℕ
hmac key message = sha256 (pad 0x5c key ++ sha256 (pad 0x36 key ++ message))
