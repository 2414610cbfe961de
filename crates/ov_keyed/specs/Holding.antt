-- The message that a value of pieces holds under a key.
use Rattle.std.specs.Prelude.{ℕ, List, ◌++◌}
use Rattle.sha2.specs.Hashers.{Holds256}
use Rattle.ov_keyed.specs.Hmac.{pad}
use Rattle.ov_keyed.specs.declared.pieces.Pieces.{Pieces}

-- the pieces hold a message under a key: one hasher holds the inner block of the key and the
-- message, and the other the outer block (RFC 2104, section 2)
abbrev pub Holds : Pieces → List ℕ → List ℕ → Type 0
Holds p key message = Holds256 p.inner (pad 0x36 key ++ message) × Holds256 p.outer (pad 0x5c key)
