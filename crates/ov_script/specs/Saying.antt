-- What one call of `next` says of the text.
use Rattle.std.specs.Prelude.{◌≡◌, ℕ, ◌+◌, ◌-◌, ◌≤◌, List, [], length, Option, Some, IfSome, ⊤}
use Rattle.std.specs.Io.KnownBytes.{Consumes}
use Rattle.ov_io.specs.Tells.{SourceTells}
use Rattle.ov_script.specs.Items.{IsItem}
use Rattle.ov_script.specs.LineFeeds.{lf_count}
use Rattle.ov_script.specs.Place.{Place, text_left}
use Rattle.ov_script.specs.Reading.{IsBad, IsTooLong}
use Rattle.ov_script.specs.declared.next.Next.{Next}
use Rattle.ov_script.specs.declared.next.Next.TheVariants.{Command, End, BadLine, Long}

-- The text, which begins on this line and of which this many bytes may be read, begins with what
-- `next` says; the line, the room and the rest are then these.
abbrev pub Says : ℕ → ℕ → List ℕ → Next → ℕ → ℕ → Option (List ℕ) → Type 0
Says line room text (Command command) line' room' rest =
    (item : List ℕ) × IsItem item command × Consumes (Some text) rest item × (length item ≤ room)
    × (line' ≡ line + lf_count item) × (room' ≡ room - length item)
Says line room text End line' room' rest = text ≡ []
Says line room text (BadLine n) line' room' rest = (n ≡ line) × IsBad room text
Says line room text Long line' room' rest = IsTooLong room text

-- The fact, where a command was found.
abbrev pub IfCommand : Next → Type 0 → Type 0
IfCommand (Command command) P = P
IfCommand End P = ⊤
IfCommand (BadLine n) P = ⊤
IfCommand Long P = ⊤

-- A command is what some item says, whatever the source tells.
abbrev pub IsOfItem : Next → Type 0
IsOfItem (Command command) = (item : List ℕ) × IsItem item command
IsOfItem End = ⊤
IsOfItem (BadLine n) = ⊤
IsOfItem Long = ⊤

-- What `next` says of what was still to be read, where the source tells it.
abbrev pub SaysOf : {S : Type 0} → SourceTells S → Place S → Next → Place S → Type 0
SaysOf tells old next new =
    IfSome (text_left tells old)
    (λ text. Says old.line old.room text next new.line new.room (text_left tells new))
