-- What the crates above cite of `hmac` without its definition.
use Rattle.std.proofs.Common.{ℕ, ◌≡◌, List, length}
use Rattle.sha2.proofs.Facts256.{length-sha256}
use Rattle.ov_keyed.specs.Hmac.{hmac}

-- a tag has 32 bytes
pub length-hmac : (key message : List ℕ) → length (hmac key message) ≡ 32
unfolding hmac
length-hmac key message = length-sha256 _
