-- The grammar of script items.
use Rattle.std.specs.Prelude.{◌≡◌, ◌≤◌, ℕ, List, [], ◌∷◌, ◌++◌, length, codes}
use Rattle.std.specs.Fmt.{decimal}
use Rattle.ov_base.specs.declared.limits.TheConstants.{MAX_FILE_BYTES, MAX_LINE_BYTES}
use Rattle.ov_base.specs.Names.{IsName}
use Rattle.ov_script.specs.WrittenLists.{IsList}
use Rattle.ov_script.specs.declared.command.Command.{Command}
use Rattle.ov_script.specs.declared.command.Command.TheVariants.{Enrol, Create, Grant, Revoke, Remove, Replace, Read, List as Command-List, Epoch}

-- The words, with one space between two of them.
abbrev pub spaced : List (List ℕ) → List ℕ
spaced [] = []
spaced (word ∷ []) = word
spaced (word ∷ next ∷ words) = word ++ 32 ∷ spaced (next ∷ words)

-- The line of these words.
abbrev pub line_of : List (List ℕ) → List ℕ
line_of words = spaced words ++ 10 ∷ []

-- The line of a `create`, whose list is written so.
abbrev pub create_line : List ℕ → List ℕ → ℕ → List ℕ
create_line file list size = line_of (codes "create" ∷ file ∷ list ∷ decimal size ∷ [])

-- The line of a `replace`.
abbrev pub replace_line : List ℕ → ℕ → List ℕ
replace_line file size = line_of (codes "replace" ∷ file ∷ decimal size ∷ [])

-- These bytes are one item, which says this command: a line, and behind that of a `create` or a
-- `replace` as many bytes as its last word says, and one LF. Only the line of a `create` could be longer than a line
-- may be.
abbrev pub IsItem : List ℕ → Command → Type 0
IsItem bytes (Enrol user) = IsName user × (bytes ≡ line_of (codes "enrol" ∷ user ∷ []))
IsItem bytes (Create file names body) =
    (list : List ℕ) × IsName file × IsList list names × (length body ≤ MAX_FILE_BYTES)
    × (length (create_line file list (length body)) ≤ MAX_LINE_BYTES)
    × (bytes ≡ create_line file list (length body) ++ body ++ 10 ∷ [])
IsItem bytes (Grant user file) =
    IsName user × IsName file × (bytes ≡ line_of (codes "grant" ∷ user ∷ file ∷ []))
IsItem bytes (Revoke user file) =
    IsName user × IsName file × (bytes ≡ line_of (codes "revoke" ∷ user ∷ file ∷ []))
IsItem bytes (Remove file) = IsName file × (bytes ≡ line_of (codes "remove" ∷ file ∷ []))
IsItem bytes (Replace file body) =
    IsName file × (length body ≤ MAX_FILE_BYTES)
    × (bytes ≡ replace_line file (length body) ++ body ++ 10 ∷ [])
IsItem bytes (Read user file) =
    IsName user × IsName file × (bytes ≡ line_of (codes "read" ∷ user ∷ file ∷ []))
IsItem bytes (Command-List file) = IsName file × (bytes ≡ line_of (codes "list" ∷ file ∷ []))
IsItem bytes Epoch = bytes ≡ line_of (codes "epoch" ∷ [])

-- Some front of the text is an item.
abbrev pub BeginsWithItem : List ℕ → Type 0
BeginsWithItem text =
    (item rest : List ℕ) × (command : Command) × (text ≡ item ++ rest) × IsItem item command

-- Bytes may follow with which the text begins with an item.
abbrev pub CanBegin : List ℕ → Type 0
CanBegin text = (more : List ℕ) × BeginsWithItem (text ++ more)
