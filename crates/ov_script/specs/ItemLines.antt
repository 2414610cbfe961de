-- What the first line of an item says, without its LF.
use Rattle.std.specs.Prelude.{◌≡◌, ◌<◌, ◌≤◌, ℕ, List, [], ◌∷◌, ◌++◌, length, codes}
use Rattle.std.specs.Fmt.{decimal}
use Rattle.ov_base.specs.declared.limits.TheConstants.{MAX_FILE_BYTES, MAX_LINE_BYTES}
use Rattle.ov_base.specs.Names.{IsName}
use Rattle.ov_script.specs.Items.{spaced}
use Rattle.ov_script.specs.WrittenLists.{IsList}
use Rattle.ov_script.specs.declared.command.Command.{Command}
use Rattle.ov_script.specs.declared.command.Command.TheVariants.{Enrol, Create, Grant, Revoke, Remove, Replace, Read, List as Command-List, Epoch}
use Rattle.ov_script.specs.declared.first_line.FirstLine.{FirstLine}
use Rattle.ov_script.specs.declared.first_line.FirstLine.TheVariants.{Whole, WithBody}
use Rattle.ov_script.specs.declared.first_line.Head.{Head}
use Rattle.ov_script.specs.declared.first_line.Head.TheVariants.{Creation, Replacement}

-- The line is the words of this command, which has no body.
abbrev pub SaysWhole : List ℕ → Command → Type 0
SaysWhole line (Enrol user) = IsName user × (line ≡ spaced (codes "enrol" ∷ user ∷ []))
SaysWhole line (Create file names body) = ⊥
SaysWhole line (Grant user file) =
    IsName user × IsName file × (line ≡ spaced (codes "grant" ∷ user ∷ file ∷ []))
SaysWhole line (Revoke user file) =
    IsName user × IsName file × (line ≡ spaced (codes "revoke" ∷ user ∷ file ∷ []))
SaysWhole line (Remove file) = IsName file × (line ≡ spaced (codes "remove" ∷ file ∷ []))
SaysWhole line (Replace file body) = ⊥
SaysWhole line (Read user file) =
    IsName user × IsName file × (line ≡ spaced (codes "read" ∷ user ∷ file ∷ []))
SaysWhole line (Command-List file) = IsName file × (line ≡ spaced (codes "list" ∷ file ∷ []))
SaysWhole line Epoch = line ≡ codes "epoch"

-- The line is the words of a `create`, and no longer than a line may be.
abbrev pub SaysCreate : List ℕ → List ℕ → List (List ℕ) → ℕ → Type 0
SaysCreate line file names size =
    (list : List ℕ) × IsName file × IsList list names × (size ≤ MAX_FILE_BYTES)
    × (length line < MAX_LINE_BYTES)
    × (line ≡ spaced (codes "create" ∷ file ∷ list ∷ decimal size ∷ []))

-- The line is the words of a `replace`.
abbrev pub SaysReplace : List ℕ → List ℕ → ℕ → Type 0
SaysReplace line file size =
    IsName file × (size ≤ MAX_FILE_BYTES)
    × (line ≡ spaced (codes "replace" ∷ file ∷ decimal size ∷ []))

-- The line is the words of this command, whose body has this many bytes.
abbrev pub SaysHead : List ℕ → Head → ℕ → Type 0
SaysHead line (Creation file names) size = SaysCreate line file names size
SaysHead line (Replacement file) size = SaysReplace line file size

-- The line says this: a whole command, or one that has as many bytes as the line's last word says
-- and one LF behind it.
abbrev pub SaysLine : List ℕ → FirstLine → Type 0
SaysLine line (Whole command) = SaysWhole line command
SaysLine line (WithBody head size) = SaysHead line head size

-- The command with this body.
abbrev pub with_body : Head → List ℕ → Command
with_body (Creation file names) body = Create file names body
with_body (Replacement file) body = Replace file body

-- What follows the line's LF makes it this command.
abbrev pub Completes : FirstLine → List ℕ → Command → Type 0
Completes (Whole said) tail command = (tail ≡ []) × (command ≡ said)
Completes (WithBody head size) tail command =
    (body : List ℕ) × (length body ≡ size) × (tail ≡ body ++ 10 ∷ [])
    × (command ≡ with_body head body)
