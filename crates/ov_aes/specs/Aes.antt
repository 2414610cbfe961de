-- AES-256 (FIPS 197, section 5).
use Rattle.std.specs.Prelude.{ℕ, List}
use Rattle.ov_aes.specs.Cipher.{cipher}
use Rattle.ov_aes.specs.KeyExpansion.{key_expansion}

-- 5: AES-256, of a block of 16 bytes under a key of 32 bytes
unfoldable pub aes256 : List ℕ → List ℕ → List ℕ
aes256 key input = cipher (key_expansion key) input
