-- A set that is kept as words of 64 bits.
use Rattle.std.specs.Prelude.{ℕ, ◌+◌, ◌*◌, ◌^◌, List, [], ◌∷◌}

-- the set with these words: user n is bit n % 64 of word n / 64
abbrev pub set_of_words : List ℕ → ℕ
set_of_words [] = 0
set_of_words (word ∷ words) = set_of_words words * 2 ^ 64 + word
