-- What calls give, and what that comes to.
use Rattle.std.proofs.Common.{ℕ, List, Result, Ok, Err, sym, subst, inl, inr, arith}
use Rattle.ov_base.specs.Names.{IsName}
use Rattle.ov_base.specs.declared.refusal.Refusal.{Refusal}
use Rattle.ov_client.specs.Completeness.{IsReadOrCut}
use Rattle.ov_client.specs.declared.fault.ClientFault.{ClientFault}
use Rattle.ov_client.specs.declared.fault.ClientFault.TheVariants as client
use Rattle.ov_history.specs.Plain.{PlainHistory}
use Rattle.ov_owner.specs.Completeness.{IsSaidOrCut}
use Rattle.ov_owner.specs.declared.fault.OwnerFault.{OwnerFault}
use Rattle.ov_owner.specs.declared.fault.OwnerFault.TheVariants as faults
use Rattle.ov_wire.specs.Requests.{HasRequestForm}
use Rattle.ov_wire.specs.declared.request.Question.TheVariants as questions
use Rattle.ov_wire.specs.declared.request.Request.TheVariants as requests
use Rattle.ov_acts.proofs.Fronts.{name_short}
use Rattle.ov_acts.specs.Acts.{Says}
use Rattle.ov_acts.specs.Acts.{read_outcome}
use Rattle.ov_acts.specs.Completeness.{IsAnsweredOr}
use Rattle.ov_acts.specs.Stops.{Outcome, stop_of_owner}
use Rattle.ov_acts.specs.declared.stop.Stop.TheVariants as stops

-- ---- the questions

pub hello_form : HasRequestForm requests.Hello
hello_form = record { is_request = tt; fits = omega arith }

pub list_form : (file : List ℕ) → IsName file → HasRequestForm (requests.List file)
list_form file named = record { is_request = named; fits = omega (arith, name_short file named) }

pub key_form : (user : List ℕ) → IsName user → HasRequestForm (requests.Ask (questions.Key user))
key_form user named = record { is_request = named; fits = omega (arith, name_short user named) }

-- ---- what calls give

-- an end that is told of one fault of the disk, told of another
pub answered_by : (disk other : Type 0) → (disk → other) → (outcome : Outcome)
    → IsAnsweredOr disk outcome → IsAnsweredOr other outcome
answered_by disk other f (Ok bytes) is = tt
answered_by disk other f (Err (stops.Refused why)) is = tt
answered_by disk other f (Err stops.Device) is = f is
answered_by disk other f (Err stops.Read) is = tt
answered_by disk other f (Err stops.Memory) is = tt
answered_by disk other f (Err stops.Link) is = tt
answered_by disk other f (Err stop) is = absurd is

-- the call has a result, is refused, or a fault ended it: one of the server's disk, where there was
-- such a one
abbrev pub IsCalled : Type 0 → {T : Type 0} → Result T OwnerFault → Type 0
IsCalled disk (Ok value) = Unit {0}
IsCalled disk (Err fault) = IsAnsweredOr disk (Err (stop_of_owner fault))

module _ (disk : Type 0) where
  pub says_so : {T : Type 0} (line : T → List ℕ) (result : Result T OwnerFault)
      (outcome : Outcome)
      → IsCalled disk result → Says line result outcome → IsAnsweredOr disk outcome
  says_so line (Ok value) outcome called (inl e) = subst (IsAnsweredOr disk) (sym e) tt
  says_so line (Ok value) outcome called (inr e) = subst (IsAnsweredOr disk) (sym e) tt
  says_so line (Err fault) outcome called e = subst (IsAnsweredOr disk) (sym e) called

  -- a call that gives what is said of it, or is cut off
  pub said_called : {T : Type 0} (Says : Result T Refusal → Type 0) (link : Type 0)
      (result : Result T OwnerFault)
      → IsSaidOrCut Says disk link result → IsCalled disk result
  said_called Says link (Ok value) is = tt
  said_called Says link (Err (faults.Refused why)) is = tt
  said_called Says link (Err faults.Link) is = tt
  said_called Says link (Err (faults.BadReply place)) is = is
  said_called Says link (Err faults.BadTag) is = is
  said_called Says link (Err faults.Device) is = is
  said_called Says link (Err (faults.Unsettled epochs)) is = is
  said_called Says link (Err faults.Memory) is = tt

  pub read_called : (h : PlainHistory) (user file : List ℕ) (stays link : Type 0)
      (result : Result (List ℕ) ClientFault)
      → IsReadOrCut h user file stays disk link result → IsAnsweredOr disk (read_outcome result)
  read_called h user file stays link (Ok bytes) is = tt
  read_called h user file stays link (Err (client.Refused why)) is = tt
  read_called h user file stays link (Err client.Link) is = tt
  read_called h user file stays link (Err (client.BadReply place)) is = is.0
  read_called h user file stays link (Err (client.Damaged stored computed)) is = is.0
  read_called h user file stays link (Err client.Device) is = is
  read_called h user file stays link (Err (client.Unsettled generations)) is = is.0
  read_called h user file stays link (Err client.Memory) is = tt
