-- How what a call returned agrees with what is read.
use Rattle.std.specs.Prelude.{◌≡◌, ℕ, List, Option, Some, None, Result, Ok, Err, IfSome}
use Rattle.std.specs.Borrow.{Bor}
use Rattle.ov_fields.specs.declared.fault.FieldFault.{FieldFault}
use Rattle.ov_fields.specs.declared.fault.FieldFault.TheVariants.{Bad, Memory}

-- What was returned, seen by view, is what is read, unless memory ran out: `place_of` tells the
-- place that an error names, and gives none where memory was refused.
abbrev pub Gives : {E X Y : Type 0} → (E → Option ℕ) → (X → Y) → Result X E → Result Y ℕ → Type 0
Gives place_of view (Ok value) read = read ≡ Ok (view value)
Gives place_of view (Err e) read = IfSome (place_of e) (λ place. read ≡ Err place)

-- how many bytes are left at the wrong one
abbrev pub left_of : FieldFault → Option ℕ
left_of (Bad left) = Some left
left_of Memory = None

-- a value and the bytes after it were returned as they are read, unless memory ran out
abbrev pub GivesField : {X Y : Type 0} → (X → Y) → Result (X × Bor (List ℕ)) FieldFault
    → Result (Y × List ℕ) ℕ → Type 0
GivesField view result read = Gives left_of (λ x. (view x.0, x.1.now)) result read
