-- The lines of a shorter store.
use Rattle.std.specs.Prelude.{ℕ, List, [], ◌∷◌, ◌++◌, codes}
use Rattle.std.specs.Fmt.{decimal}

-- the line on how many updates the old store has and the new one, with its LF
abbrev pub tidied_line : ℕ → ℕ → List ℕ
tidied_line updates kept = codes "tidy " ++ decimal updates ++ 32 ∷ decimal kept ++ 10 ∷ []

-- the line on a disk for the new store that isn't empty
abbrev pub notempty_line : List ℕ
notempty_line = codes "error notempty" ++ 10 ∷ []
