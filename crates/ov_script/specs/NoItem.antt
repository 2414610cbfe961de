-- Inner: no public contract needs this. Why no item is read.
use Rattle.std.specs.Prelude.{◌≡◌, ℕ, List, [], Option, Result, Err, IfSome, ⊤}
use Rattle.ov_script.specs.Reading.{IsBad, IsTooLong}
use Rattle.ov_script.specs.declared.ended.Ended.{Ended}
use Rattle.ov_script.specs.declared.ended.Ended.TheVariants.{End, Bad, Long, Fault}
use Rattle.ov_script.specs.declared.next.ScriptFault.TheVariants.{Read}

-- A call failed for a fault of the source.
abbrev pub IsReadFault : {T : Type 0} → Result T Ended → Type 0
IsReadFault result = result ≡ Err (Fault Read)

-- Why no item is read from this text, where it is told and this many bytes of it may be read: it
-- ends, a bad item is there, or it is too long. A fault says nothing of the text.
abbrev pub IsWhyNone : ℕ → Option (List ℕ) → Ended → Type 0
IsWhyNone room text End = IfSome text (λ t. t ≡ [])
IsWhyNone room text Bad = IfSome text (IsBad room)
IsWhyNone room text Long = IfSome text (IsTooLong room)
IsWhyNone room text (Fault fault) = ⊤
