-- Where a door listens, and what it tells of the streams that it gave.
use Rattle.std.specs.Prelude.{◌≡◌, ◌<◌, ◌+◌, ◌-◌, ◌^◌, min, ℕ, zero, suc}
use Rattle.std.specs.Prelude.{List, [], ◌∷◌, ◌++◌, slice_get, Bool, false, true}
use Rattle.std.specs.Prelude.{Option, Some, None, IfSome, Result, Ok, Err}
use Rattle.ov_base.specs.Causes.{Rose}
use Rattle.ov_session.specs.declared.end.SessionEnd.{SessionEnd}

-- a stream that was taken back, and how its session ended
pub record Back (S : Type 0) : Type 0 where
  pub stream : S
  pub ending : SessionEnd

-- a stream as it was given, and what was taken back of it
pub record Given (S : Type 0) : Type 0 where
  pub stream : S
  pub back : Option (Back S)

-- what a door shows: the address at which it listens, where it tells that; the streams that it
-- gave, where it tells them; their number; whether it has answered that there are no more; and how
-- often it has failed
pub record Doorway (S : Type 0) : Type 0 where
  pub listens_at : Option (List ℕ)
  pub told : Option (List (Given S))
  pub given : ℕ
  pub closed : Bool
  pub faults : ℕ

-- the streams aren't told, or there are none
abbrev pub TellsNone : {S : Type 0} → Option (List (Given S)) → Type 0
TellsNone None = Unit {0}
TellsNone (Some streams) = streams ≡ []

-- a door that gave no stream yet, and hasn't answered that there are no more
pub record IsUnused {S : Type 0} (d : Doorway S) : Type 0 where
  pub told : TellsNone d.told
  pub given : d.given ≡ 0
  pub open_ : d.closed ≡ false

-- a door that tells where it listens tells this address
abbrev pub IsWhere : {S : Type 0} → List ℕ → Doorway S → Type 0
IsWhere address d = IfSome d.listens_at (λ told. address ≡ told)

-- the old door, listening where the new one does
abbrev pub listening : {S : Type 0} → (old new : Doorway S) → Doorway S
listening old new = record old { listens_at = new.listens_at }

-- a door that listens at this address, and is otherwise as it was
abbrev pub OpensAt : {S : Type 0} → Doorway S → Doorway S → List ℕ → Type 0
OpensAt old new address = (new ≡ listening old new) × IsWhere address new

-- A door that failed counts that as one fault, and is otherwise as it was. A count of faults stays
-- at its last value, and is then said to have risen.
abbrev pub FailsOnce : {S : Type 0} → Doorway S → Doorway S → Type 0
FailsOnce old new =
    (new ≡ record old { faults = min (old.faults + 1) (2 ^ 64 - 1) })
    × Rose old.faults new.faults

-- the door listens, and the address at which it does was appended; or it failed
abbrev pub Listens : {S E : Type 0} → Doorway S → Doorway S → List ℕ → List ℕ
    → Result (Unit {0}) E → Type 0
Listens old new before after (Ok done) =
    (address : List ℕ) × (after ≡ before ++ address) × OpensAt old new address
Listens old new before after (Err fault) = FailsOnce old new

-- the streams that are told, and one more
abbrev pub and_one : {S : Type 0} → Option (List (Given S)) → S → Option (List (Given S))
and_one None stream = None
and_one (Some streams) stream = Some (streams ++ record { stream = stream; back = None } ∷ [])

-- a stream was given, or there are no more, or the door failed
abbrev pub Accepts : {S E : Type 0} → Doorway S → Doorway S → Result (Option S) E → Type 0
Accepts old new (Ok (Some stream)) =
    new ≡ record old { told = and_one old.told stream; given = old.given + 1 }
Accepts old new (Ok None) = new ≡ record old { closed = true }
Accepts old new (Err fault) = FailsOnce old new

-- among these streams the one of this number wasn't taken back
abbrev pub IsOutAmong : {S : Type 0} → Option (List (Given S)) → ℕ → Type 0
IsOutAmong None number = Unit {0}
IsOutAmong {S} (Some streams) number =
    (stream : S) × (slice_get streams number ≡ Some (record { stream = stream; back = None }))

-- the door gave the stream of this number, and hasn't taken it back
pub record IsOut {S : Type 0} (d : Doorway S) (number : ℕ) : Type 0 where
  pub given : number < d.given
  pub out : IsOutAmong d.told number

-- the streams, of which the one of this number was taken back
abbrev pub back_at : {S : Type 0} → List (Given S) → ℕ → Back S → List (Given S)
back_at [] number back = []
back_at (given ∷ more) zero back = record given { back = Some back } ∷ more
back_at (given ∷ more) (suc number) back = given ∷ back_at more number back

-- the streams that are told, of which the one of this number was taken back; none where none are
-- told
abbrev pub told_back : {S : Type 0} → Option (List (Given S)) → ℕ → Back S
    → Option (List (Given S))
told_back None number back = None
told_back (Some streams) number back = Some (back_at streams number back)

-- the door has taken back the stream of this number, and nothing else
abbrev pub taken_back : {S : Type 0} → Doorway S → ℕ → S → SessionEnd → Doorway S
taken_back d number stream ending =
    record d { told = told_back d.told number (record { stream = stream; ending = ending }) }
