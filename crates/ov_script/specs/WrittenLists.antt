-- How a list of names is written.
use Rattle.std.specs.Prelude.{◌≡◌, ℕ, List, [], ◌∷◌, ◌++◌, codes}
use Rattle.ov_base.specs.NameLists.{with_name}
use Rattle.ov_base.specs.Names.{IsName}

-- Each of these texts is a name.
abbrev pub AreNames : List (List ℕ) → Type 0
AreNames [] = Unit {0}
AreNames (name ∷ names) = IsName name × AreNames names

-- The names, each behind a comma.
abbrev pub with_commas : List (List ℕ) → List ℕ
with_commas [] = []
with_commas (name ∷ names) = 44 ∷ name ++ with_commas names

-- The names with commas between them, or `-` where there are none.
abbrev pub list_text : List (List ℕ) → List ℕ
list_text [] = codes "-"
list_text (name ∷ names) = name ++ with_commas names

-- The names, and behind them those of the others, in order, that aren't there yet.
abbrev pub with_names : List (List ℕ) → List (List ℕ) → List (List ℕ)
with_names names [] = names
with_names names (name ∷ others) = with_names (with_name names name) others

-- The names in the order of their first places, each once.
abbrev pub without_repeats : List (List ℕ) → List (List ℕ)
without_repeats names = with_names [] names

-- The text is a list of names, in any order; it may have a name more than once.
abbrev pub IsList : List ℕ → List (List ℕ) → Type 0
IsList text names =
    (said : List (List ℕ)) × AreNames said × (text ≡ list_text said)
    × (names ≡ without_repeats said)
