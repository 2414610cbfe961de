-- Lists of names of which none comes twice.
use Rattle.std.specs.Prelude.{ℕ, Bool, true, false, List, [], ◌∷◌, ◌++◌}
use Rattle.std.specs.List.{list_any, IsDistinct}
use Rattle.std.specs.Str.{bytes_eq}

-- whether the name is among these
abbrev pub is_among : List ℕ → List (List ℕ) → Bool
is_among name names = list_any (bytes_eq name) names

-- no name is equal to one after it
abbrev pub AreDistinct : List (List ℕ) → Type 0
AreDistinct names = IsDistinct bytes_eq names

-- the names, and the name at their end where it isn't among them
abbrev pub appended : Bool → List (List ℕ) → List ℕ → List (List ℕ)
appended true names name = names
appended false names name = names ++ name ∷ []

-- the names with this one added
abbrev pub with_name : List (List ℕ) → List ℕ → List (List ℕ)
with_name names name = appended (is_among name names) names name
