-- Inner: no public contract needs this. What is at the front of a text, and what of it is used.
use Rattle.std.specs.Prelude.{◌≡◌, ◌≢◌, ℕ, ◌+◌, ◌-◌, ◌<◌, ◌≤◌, List, [], ◌∷◌, ◌++◌, length, vec_len, Option, Result, Ok, Err, IfSome, ⊤, Vec}
use Rattle.std.specs.Io.KnownBytes.{prepend_known}
use Rattle.std.specs.declared.alloc.Global.{Global}
use Rattle.ov_base.specs.declared.limits.TheConstants.{MAX_LINE_BYTES}
use Rattle.ov_io.specs.Calls.{TakesPieces, TakesWhile}
use Rattle.ov_io.specs.Tells.{SourceTells}
use Rattle.ov_script.specs.Feed.{Fed, Uses, text_of}
use Rattle.ov_script.specs.ItemLines.{SaysLine, with_body}
use Rattle.ov_script.specs.Items.{IsItem}
use Rattle.ov_script.specs.LineFeeds.{lf_count, NoLf}
use Rattle.ov_script.specs.LineFronts.{run}
use Rattle.ov_script.specs.NoItem.{IsWhyNone}
use Rattle.ov_script.specs.Place.{Place, text_left}
use Rattle.ov_script.specs.Saying.{SaysOf}
use Rattle.ov_script.specs.Taking.{IsUnsettled}
use Rattle.ov_script.specs.declared.body.Behind.{Behind}
use Rattle.ov_script.specs.declared.body.Behind.TheVariants.{Lf, Other, Nothing}
use Rattle.ov_script.specs.declared.command.Command.{Command}
use Rattle.ov_script.specs.declared.ended.Ended.{Ended}
use Rattle.ov_script.specs.declared.ended.Ended.TheVariants.{End, Bad, Long, Fault}
use Rattle.ov_script.specs.declared.first_line.Head.{Head}
use Rattle.ov_script.specs.declared.front.Front.TheVariants.{Start}
use Rattle.ov_script.specs.declared.find.Line.{Line}
use Rattle.ov_script.specs.declared.find.Seen.{Seen}
use Rattle.ov_script.specs.declared.find.Seen.TheVariants.{Whole, Open}
use Rattle.ov_script.specs.declared.item.Item.{Item}
use Rattle.ov_script.specs.declared.next.Next.TheVariants.{Command as Command-Next}

-- The text is these bytes and then what is left behind them, where that is told, and this many
-- bytes of it may be read. This line is at its front; or no item is read from it.
abbrev pub Finds : ℕ → List ℕ → Option (List ℕ) → Result Line Ended → Type 0
Finds room bytes left (Ok found) =
    (line rest : List ℕ) × NoLf line × SaysLine line found.said
    × (length line + 1 ≡ found.size) × (found.size ≤ room) × (bytes ≡ line ++ 10 ∷ rest)
Finds room bytes left (Err ended) = IsWhyNone room (prepend_known bytes left) ended

-- The bytes have no LF, are fewer than the longest line has, and leave the item unsettled.
pub record IsOpen (room : ℕ) (bytes : List ℕ) : Type 0 where
  pub no_lf : NoLf bytes
  pub short : length bytes < MAX_LINE_BYTES
  pub unsettled : IsUnsettled room bytes

-- What is there is known, whatever is left behind the bytes, or their line may go on.
abbrev pub IsSettled : ℕ → List ℕ → Result Seen Ended → Type 0
IsSettled room bytes (Ok (Whole line)) = (left : Option (List ℕ)) → Finds room bytes left (Ok line)
IsSettled room bytes (Ok (Open front)) = (front ≡ run Start bytes) × IsOpen room bytes
IsSettled room bytes (Err ended) =
    (left : Option (List ℕ)) → IsWhyNone room (prepend_known bytes left) ended

-- What follows a line that has a body of this many bytes is no body and LF: the input ends
-- inside it, or no LF follows it.
pub data IsBadBody (room size : ℕ) (text : List ℕ) : Type 0 where
  cut : length text ≤ room → length text ≤ size → IsBadBody room size text
  no_lf : (body rest : List ℕ) (b : ℕ) → length body ≡ size → size < room → b ≢ 10
      → text ≡ body ++ b ∷ rest → IsBadBody room size text

-- Why this text, where it is told, doesn't begin with a body of this many bytes and its LF: there
-- is no such body, or the input goes on past what may be read, before that LF. A fault says
-- nothing.
abbrev pub IsWhyNoBody : ℕ → ℕ → Option (List ℕ) → Ended → Type 0
IsWhyNoBody room size text End = ⊥
IsWhyNoBody room size text Bad = IfSome text (IsBadBody room size)
IsWhyNoBody room size text Long = IfSome text (λ t. (room < length t) × (room ≤ size))
IsWhyNoBody room size text (Fault fault) = ⊤

-- These bytes were taken in pieces, while it was unsettled what item was there.
abbrev pub NeedsPieces : {S : Type 0} → SourceTells S → ℕ → Fed S → Fed S → List ℕ → Type 0
NeedsPieces tells room old new more =
    TakesPieces tells (λ seen. IsUnsettled room (old.pending ++ seen))
    old.source new.source more

-- This line of an item and its LF were used, which may be read, and those of their bytes that
-- weren't pending were taken in pieces, while it was unsettled what item was there; or there is no
-- item.
abbrev pub UsesLine : {S : Type 0} → SourceTells S → ℕ → Fed S → Fed S → Result Line Ended → Type 0
UsesLine tells room old new (Ok found) =
    (line : List ℕ) × NoLf line × SaysLine line found.said
    × (length line + 1 ≡ found.size) × (found.size ≤ room)
    × (uses : Uses tells old new (line ++ 10 ∷ [])) × NeedsPieces tells room old new uses.more
UsesLine tells room old new (Err ended) = IsWhyNone room (text_of tells old) ended

-- A body of this many bytes and its LF were used, which may be read; or there is none.
abbrev pub Gathers : {S : Type 0} → SourceTells S → ℕ → ℕ → Fed S → Fed S
    → Result (Vec ℕ Global) Ended → Type 0
Gathers tells room size old new (Ok bytes) =
    (vec_len bytes ≡ size) × (size < room) × Uses tells old new (bytes.items ++ 10 ∷ [])
Gathers tells room size old new (Err ended) = IsWhyNoBody room size (text_of tells old) ended

-- Bytes are taken only while fewer than this many are there, and a take that gives none is the
-- last.
abbrev pub TakesBelow : {S : Type 0} → SourceTells S → ℕ → List ℕ → Type 0 → Type 0 → S → S → Type 0
TakesBelow tells count pending ended failed old new =
    TakesWhile tells (λ seen. length (pending ++ seen) < count) ended failed old new

-- These bytes were used, and those of them that weren't pending were taken in pieces, while fewer
-- than this many were there.
abbrev pub UsesBelow : {S : Type 0} → SourceTells S → ℕ → Fed S → Fed S → List ℕ → Type 0
UsesBelow tells count old new used =
    (uses : Uses tells old new used)
    × TakesPieces tells (λ seen. length (old.pending ++ seen) < count)
    old.source new.source uses.more

-- An LF was used, or the text begins with another byte, or it ends.
abbrev pub TakesLf : {S : Type 0} → SourceTells S → Fed S → Fed S → Behind → Type 0
TakesLf tells old new Lf = Uses tells old new (10 ∷ [])
TakesLf tells old new Other =
    IfSome (text_of tells old) (λ text. (b : ℕ) × (rest : List ℕ) × (b ≢ 10) × (text ≡ b ∷ rest))
TakesLf tells old new Nothing = IfSome (text_of tells old) (λ text. text ≡ [])

-- What follows the line of a command with a body, of this many bytes, makes an item, or there is
-- none.
abbrev pub MakesItem : {S : Type 0} → SourceTells S → ℕ → Head → ℕ → ℕ → Fed S → Fed S
    → Result Item Ended → Type 0
MakesItem tells room head line size old new (Ok item) =
    (body : List ℕ) × (item.command ≡ with_body head body) × (length body ≡ size)
    × (item.size ≡ line + size + 1) × (item.size ≤ room) × (item.lines ≡ lf_count body + 2)
    × Uses tells old new (body ++ 10 ∷ [])
MakesItem tells room head line size old new (Err ended) =
    IsWhyNoBody (room - line) size (text_of tells old) ended

-- An item that says this command, with this many bytes and this many LF, was used; or there is
-- none.
abbrev pub Tells : {S : Type 0} → SourceTells S → ℕ → Fed S → Fed S → Result Item Ended → Type 0
Tells tells room old new (Ok item) =
    (bytes : List ℕ) × IsItem bytes item.command × (length bytes ≡ item.size) × (item.size ≤ room)
    × (lf_count bytes ≡ item.lines) × Uses tells old new bytes
Tells tells room old new (Err ended) = IsWhyNone room (text_of tells old) ended

-- The command of the item that is there, as `next` says it; or why there is none.
abbrev pub Gives : {S : Type 0} → SourceTells S → Place S → Result Command Ended → Place S → Type 0
Gives tells old (Ok command) new =
    ((bytes : List ℕ) × IsItem bytes command) × SaysOf tells old (Command-Next command) new
Gives tells old (Err ended) new = IsWhyNone old.room (text_left tells old) ended
