-- The tag by which a reader sees that a file is whole.
use Rattle.std.specs.Prelude.{ℕ, List, ◌++◌, length}
use Rattle.std.specs.Int.{to_be_bytes, w64}
use Rattle.ov_keyed.specs.Hmac.{hmac}
use Rattle.ov_tokens.specs.Keys.{tag_key_of}

-- the tag of a file under the access key of its base node: the keyed hash of its length in 8 bytes,
-- high byte first, and its plaintext
abbrev pub tag_of_file : List ℕ → ℕ → List ℕ → List ℕ
tag_of_file access file plain =
    hmac (tag_key_of access file) (to_be_bytes w64 (length plain) ++ plain)
