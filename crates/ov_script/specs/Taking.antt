-- What a call of `next` may take from the source.
use Rattle.std.specs.Prelude.{◌≡◌, ◌≤◌, ℕ, List, ◌++◌, length, Result, Err, IfOk, None}
use Rattle.ov_io.specs.Calls.{TakesWhile}
use Rattle.ov_io.specs.Tells.{SourceTells}
use Rattle.ov_script.specs.Items.{BeginsWithItem, CanBegin}
use Rattle.ov_script.specs.Place.{Place}
use Rattle.ov_script.specs.Saying.{IfCommand}
use Rattle.ov_script.specs.declared.next.Next.{Next}
use Rattle.ov_script.specs.declared.next.ScriptFault.{ScriptFault}
use Rattle.ov_script.specs.declared.next.ScriptFault.TheVariants.{Read}

-- The text has no more bytes than may be read, and more of it must be known to tell whether an item
-- is here.
pub record IsUnsettled (room : ℕ) (text : List ℕ) : Type 0 where
  pub within : length text ≤ room
  pub can : CanBegin text
  pub none : BeginsWithItem text → ⊥

-- Bytes are taken only while the pending bytes and those taken leave it unsettled what item is
-- there, and a take that gives none is the last. At a fault of the source nothing is lost, and it
-- is unsettled still.
abbrev pub TakesWhatItNeeds : {S : Type 0} → SourceTells S → ℕ → List ℕ → Type 0 → Type 0 → S → S
    → Type 0
TakesWhatItNeeds tells room pending ended failed old new =
    TakesWhile tells (λ seen. IsUnsettled room (pending ++ seen)) ended failed old new

-- The reading ends with this answer, which is no command, or had ended with it.
abbrev pub EndsReading : Result Next ScriptFault → Type 0
EndsReading result = IfOk result (λ next. IfCommand next ⊥)

-- The reading had not ended, and a fault of the source ends it.
abbrev pub IsFreshFault : {S : Type 0} → Place S → Result Next ScriptFault → Type 0
IsFreshFault old result = (old.ended ≡ None) × (result ≡ Err Read)
