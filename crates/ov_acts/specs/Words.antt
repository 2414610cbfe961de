-- The words of the command line.
use Rattle.std.specs.Prelude.{◌≡◌, ℕ, ◌≤◌, ◌==◌, Bool, false, List, [], ◌∷◌, codes, length}
use Rattle.std.specs.Prelude.{String, string_bytes}
use Rattle.std.specs.List.{list_any}
use Rattle.std.specs.declared.alloc.Global.{Global}
use Rattle.ov_base.specs.Names.{IsName}
use Rattle.ov_script.specs.WrittenLists.{IsList}
use Rattle.ov_acts.specs.declared.job.Act.{Act}
use Rattle.ov_acts.specs.declared.job.Act.TheVariants.{Check, Create, Enrol, Grant, Key}
use Rattle.ov_acts.specs.declared.job.Act.TheVariants.{List as ListNames, Read, Remove, Replace, Revoke}
use Rattle.ov_acts.specs.declared.job.Job.{Job}
use Rattle.ov_acts.specs.declared.words.TheConstants.{MAX_WRITTEN_LIST}

-- the text is a list of these names, and isn't too long
pub record IsWritten (text : List ℕ) (names : List (List ℕ)) : Type 0 where
  pub short : length text ≤ MAX_WRITTEN_LIST
  pub list : IsList text names

-- The words of an act: its name, those behind ADDRESS and KEYS, and the path, where it has one.
abbrev pub IsActLine : Act → List ℕ → List (List ℕ) → List ℕ → Type 0
IsActLine (Enrol user) command words path =
    (command ≡ codes "enrol") × (words ≡ user ∷ []) × (path ≡ []) × IsName user
IsActLine (Grant user file) command words path =
    (command ≡ codes "grant") × (words ≡ user ∷ file ∷ []) × (path ≡ [])
    × IsName user × IsName file
IsActLine (Revoke user file) command words path =
    (command ≡ codes "revoke") × (words ≡ user ∷ file ∷ []) × (path ≡ [])
    × IsName user × IsName file
IsActLine (Remove file) command words path =
    (command ≡ codes "remove") × (words ≡ file ∷ []) × (path ≡ []) × IsName file
IsActLine (Create file list) command words path =
    (text : List ℕ) × (command ≡ codes "create") × (words ≡ file ∷ text ∷ path ∷ [])
    × IsName file × IsWritten text list
IsActLine (Replace file) command words path =
    (command ≡ codes "replace") × (words ≡ file ∷ path ∷ []) × IsName file
IsActLine (ListNames file) command words path =
    (command ≡ codes "list") × (words ≡ file ∷ []) × (path ≡ []) × IsName file
IsActLine (Key user) command words path =
    (command ≡ codes "key") × (words ≡ user ∷ []) × (path ≡ []) × IsName user
IsActLine (Read file) command words path =
    (command ≡ codes "read") × (words ≡ file ∷ []) × (path ≡ []) × IsName file
IsActLine Check command words path = ⊥

-- The words of a job. Those of `check` are its name and KEYS alone.
abbrev pub IsLine : Act → List ℕ → List ℕ → List ℕ → List (List ℕ) → Type 0
IsLine Check address keys path words =
    (words ≡ codes "check" ∷ keys ∷ []) × (address ≡ []) × (path ≡ [])
IsLine act address keys path words =
    (command : List ℕ) × (rest : List (List ℕ)) × (words ≡ command ∷ address ∷ keys ∷ rest)
    × IsActLine act command rest path

-- whether the word looks like an option: a dash, and more behind it
abbrev pub is_option : List ℕ → Bool
is_option [] = false
is_option (byte ∷ []) = false
is_option (byte ∷ (other ∷ bytes)) = byte == 45

-- whether one of the words looks like an option
abbrev pub has_option : List (String Global) → Bool
has_option words = list_any (λ word. is_option (string_bytes word)) words

-- these words are the line of this job
abbrev pub IsJobLine : List (List ℕ) → Job → Type 0
IsJobLine words job = IsLine job.act job.address job.keys job.path words

-- these words are no job's line
abbrev pub IsNoLine : List (List ℕ) → Type 0
IsNoLine words = (job : Job) → IsJobLine words job → ⊥
