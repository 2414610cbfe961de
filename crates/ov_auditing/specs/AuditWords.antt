-- The words that ask for an audit.
use Rattle.std.specs.Prelude.{◌≡◌, ℕ, Bool, true, false, List, [], ◌∷◌, codes, map}
use Rattle.std.specs.Prelude.{String, string_bytes}
use Rattle.std.specs.declared.alloc.Global.{Global}
use Rattle.ov_script.specs.WrittenLists.{IsList}
use Rattle.ov_auditing.specs.declared.audit_words.Asked.{Asked}

-- the word behind the list, where the server helps
abbrev pub server_words : Bool → List (List ℕ)
server_words true = codes "server" ∷ []
server_words false = []

-- the list has one name at least
abbrev pub IsListOfSome : List ℕ → List (List ℕ) → Type 0
IsListOfSome text [] = ⊥
IsListOfSome text (name ∷ names) = IsList text (name ∷ names)

-- `audit LIST`, or `audit LIST server` where the server helps
abbrev pub IsAudit : Asked → List (String Global) → Type 0
IsAudit asked words =
    (list : List ℕ) × IsListOfSome list asked.names
    × (map string_bytes words ≡ codes "audit" ∷ list ∷ server_words asked.server)

-- words that ask for no audit
abbrev pub AreNoAudit : List (String Global) → Type 0
AreNoAudit words = (asked : Asked) → IsAudit asked words → ⊥
