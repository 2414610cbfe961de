-- How a script is read: its commands, and how the reading ends.
use Rattle.std.specs.Prelude.{◌≡◌, ℕ, ◌+◌, ◌-◌, ◌<◌, ◌≤◌, List, [], ◌∷◌, ◌++◌, length, take}
use Rattle.ov_base.specs.declared.limits.TheConstants.{MAX_SCRIPT_BYTES}
use Rattle.ov_script.specs.declared.command.Command.{Command}
use Rattle.ov_script.specs.Items.{IsItem, BeginsWithItem, CanBegin}
use Rattle.ov_script.specs.LineFeeds.{lf_count}

-- How the reading of a script ends: at the end of the input, at a bad item on this line, or at the
-- limit.
pub data Ending : Type 0 where
  AtEnd : Ending
  BadAt : (line : ℕ) → Ending
  TooLong : Ending

-- What is here is a bad item, where this many bytes more may be read: the input ends inside it,
-- or what may be read of it can't begin an item.
pub data IsBad (room : ℕ) (text : List ℕ) : Type 0 where
  cut : 0 < length text → length text ≤ room → (BeginsWithItem text → ⊥) → IsBad room text
  wrong : room < length text → (CanBegin (take room text) → ⊥) → IsBad room text

-- The input goes on past what may be read, which is no bad item, and no item ends within it.
pub record IsTooLong (room : ℕ) (text : List ℕ) : Type 0 where
  pub past : room < length text
  pub can : CanBegin (take room text)
  pub none_fits : (item rest : List ℕ) (command : Command)
      → text ≡ item ++ rest → IsItem item command → room < length item

-- The text, which begins on this line and of which this many bytes may be read, is these commands,
-- and the reading ends so.
abbrev pub Reads : ℕ → ℕ → List ℕ → List Command → Ending → Type 0
Reads line room text [] AtEnd = text ≡ []
Reads line room text [] (BadAt n) = (n ≡ line) × IsBad room text
Reads line room text [] TooLong = IsTooLong room text
Reads line room text (command ∷ commands) ending =
    (item rest : List ℕ) × (text ≡ item ++ rest) × (length item ≤ room) × IsItem item command
    × Reads (line + lf_count item) (room - length item) rest commands ending

-- The commands of a whole script, and how its reading ends.
abbrev pub IsScript : List ℕ → List Command → Ending → Type 0
IsScript text commands ending = Reads 1 MAX_SCRIPT_BYTES text commands ending

-- The text begins with these commands, and behind them this line, room and rest are left.
abbrev pub BeginsWith : ℕ → ℕ → List ℕ → List Command → ℕ → ℕ → List ℕ → Type 0
BeginsWith line room text [] line' room' rest = (line' ≡ line) × (room' ≡ room) × (text ≡ rest)
BeginsWith line room text (command ∷ commands) line' room' rest =
    (item more : List ℕ) × (text ≡ item ++ more) × (length item ≤ room) × IsItem item command
    × BeginsWith (line + lf_count item) (room - length item) more commands line' room' rest

-- The text begins with these commands.
abbrev pub BeginsScript : List ℕ → List Command → Type 0
BeginsScript text commands =
    (line room : ℕ) × (rest : List ℕ) × BeginsWith 1 MAX_SCRIPT_BYTES text commands line room rest
