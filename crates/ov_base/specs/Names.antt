-- Which bytes are the name of a user or of a file.
use Rattle.std.specs.Prelude.{ℕ, Bool, false, ◌&&◌, ◌||◌, nat_le, nat_lt, ◌==◌, List, [], ◌∷◌, length, IsTrue}
use Rattle.std.specs.List.{list_all}
use Rattle.ov_base.specs.declared.limits.TheConstants.{MAX_NAME_BYTES}

-- a letter `a-z` or a digit `0-9`
abbrev pub is_letter_or_digit : ℕ → Bool
is_letter_or_digit b = (nat_le 97 b && nat_le b 122) || (nat_le 48 b && nat_le b 57)

-- a letter, a digit, `.`, `_` or `-`
abbrev pub is_name_byte : ℕ → Bool
is_name_byte b = is_letter_or_digit b || b == 46 || b == 95 || b == 45

-- a letter or a digit, and then fewer than MAX_NAME_BYTES bytes that a name may have
abbrev pub is_name : List ℕ → Bool
is_name [] = false
is_name (first ∷ rest) =
    is_letter_or_digit first && nat_lt (length rest) MAX_NAME_BYTES && list_all is_name_byte rest

-- the bytes are a name
abbrev pub IsName : List ℕ → Type 0
IsName bytes = IsTrue (is_name bytes)
