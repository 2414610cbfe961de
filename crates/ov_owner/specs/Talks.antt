-- How an owner makes an update: an automaton over the replies that it gets.
use Rattle.std.specs.Prelude.{◌≡◌, ◌⊎◌, ℕ, ◌==◌, nat_lt, Bool, true, false, List, [], ◌∷◌, ◌++◌}
use Rattle.std.specs.Prelude.{length, Option, Some, None, Result, Ok, Err}
use Rattle.ov_fields.specs.Fronts.{AreAllBytes}
use Rattle.ov_record.specs.Spelling.{HasForm, spelling}
use Rattle.ov_record.specs.Updates.{SealedUpdate}
use Rattle.ov_record.specs.Forms.{second_form}
use Rattle.ov_wire.specs.declared.request.Request.{Request}
use Rattle.ov_wire.specs.declared.request.Request.TheVariants as requests
use Rattle.ov_wire.specs.declared.answer.Answer.{Answer}
use Rattle.ov_wire.specs.declared.answer.Answer.TheVariants as answers
use Rattle.ov_wire.specs.AnswerReading.{answer_of}
use Rattle.ov_wire.specs.Requests.{HasRequestForm, request_bytes}
use Rattle.ov_protocol.specs.Updating.{owner_tag}
use Rattle.ov_peer.specs.Asks.{Ask}
use Rattle.ov_owner.specs.Errands.{Errand}
use Rattle.ov_owner.specs.declared.limits.TheConstants.{MAX_TRIES}
use Rattle.ov_owner.specs.declared.fault.OwnerFault.{OwnerFault}
use Rattle.ov_owner.specs.declared.fault.OwnerFault.TheVariants as faults

-- The stages of an owner: it asks first, after tries at these epochs that were all stale, the last
-- of which told the least epoch that may come now; it sends an update; or it is done.
pub data Stage : Type 0 where
  Asks : (tries : List ℕ) → (least : ℕ) → Stage
  Sends : (tries : List ℕ) → (epoch : ℕ) → (update : SealedUpdate) → Stage
  Ends : (result : Result ℕ OwnerFault) → Stage

-- the stage at which an owner begins
abbrev pub start : Stage
start = Asks [] 0

-- the frame of an update that is made at an epoch, with the owner's tag
abbrev pub update_request : List ℕ → ℕ → SealedUpdate → Request
update_request surface epoch u =
    requests.Update epoch (spelling second_form u) (owner_tag surface epoch (spelling second_form u))

-- what is asked at a stage
abbrev pub asked_at : List ℕ → Errand → Stage → Option Request
asked_at surface e (Asks tries least) = Some e.first
asked_at surface e (Sends tries epoch u) = Some (update_request surface epoch u)
asked_at surface e (Ends result) = None

-- what is asked at a stage can be sent, and a sealed update is one that has a spelling
abbrev pub CanSend : List ℕ → Errand → Stage → Type 0
CanSend surface e (Asks tries least) = HasRequestForm e.first
CanSend surface e (Sends tries epoch u) =
    HasForm second_form u × HasRequestForm (update_request surface epoch u)
CanSend surface e (Ends result) = ⊥

-- ---- the stage after an answer

-- an epoch below one that was told before is a wrong one, at its place behind the kind byte
abbrev pub sends_if : Bool → List ℕ → ℕ → SealedUpdate → Stage
sends_if true tries epoch u = Ends (Err (faults.BadReply 1))
sends_if false tries epoch u = Sends tries epoch u

-- what was sealed is sent, or the call ends
abbrev pub after_first : List ℕ → ℕ → Result (ℕ × SealedUpdate) OwnerFault → Stage
after_first tries least (Ok (epoch, u)) = sends_if (nat_lt epoch least) tries epoch u
after_first tries least (Err fault) = Ends (Err fault)

-- where the test says so the tries are used up and the call ends unsettled; otherwise it asks again
abbrev pub again_if : Bool → List ℕ → ℕ → Stage
again_if true tries least = Ends (Err (faults.Unsettled tries))
again_if false tries least = Asks tries least

-- the owner asks again, after tries at these epochs that were all stale, unless these are all its
-- tries
abbrev pub again : List ℕ → ℕ → Stage
again tries least = again_if (length tries == MAX_TRIES) tries least

-- the stage after the answer to an update that was made at an epoch
abbrev pub after_update : List ℕ → ℕ → Answer → Stage
after_update tries epoch (answers.Accepted now) = Ends (Ok now)
after_update tries epoch (answers.Refused why) = Ends (Err (faults.Refused why))
after_update tries epoch (answers.Stale now) = again (tries ++ epoch ∷ []) now
after_update tries epoch answers.BadTag = Ends (Err faults.BadTag)
after_update tries epoch answers.DeviceFault = Ends (Err faults.Device)
after_update tries epoch answers.NoMemory = Ends (Err faults.Memory)
after_update tries epoch answer = Ends (Err (faults.BadReply 0))

-- the stage after a reply, by what the reply reads as
abbrev pub after : Errand → Stage → Result Answer ℕ → Stage
after e (Ends result) read = Ends result
after e stage (Err place) = Ends (Err (faults.BadReply place))
after e (Asks tries least) (Ok answer) = after_first tries least (e.sealed answer)
after e (Sends tries epoch u) (Ok answer) = after_update tries epoch answer

-- ---- the asks of a call

-- the frame is what is asked at the stage
pub record IsDue (surface : List ℕ) (e : Errand) (stage : Stage) (frame : List ℕ) : Type 0 where
  pub request : Request
  pub due : asked_at surface e stage ≡ Some request
  pub form : CanSend surface e stage
  pub spelled : frame ≡ request_bytes request

-- the stage is the one after the reply to this request, or memory ran out before it was read
abbrev pub IsAfter : Errand → Stage → Request → List ℕ → Stage → Type 0
IsAfter e stage request reply next =
    (AreAllBytes reply × (next ≡ after e stage (answer_of request reply)))
    ⊎ (next ≡ Ends (Err faults.Memory))

-- this was asked at a stage, and the peer replied so, after which the stage is that one
pub record Moves (surface : List ℕ) (e : Errand) (stage : Stage) (a : Ask) (next : Stage)
    : Type 0 where
  pub asked : IsDue surface e stage a.request
  pub then : IsAfter e stage asked.request a.reply next

-- the asks lead from one stage to another
abbrev pub Goes : List ℕ → Errand → Stage → List Ask → Stage → Type 0
Goes surface e stage [] last = stage ≡ last
Goes surface e stage (a ∷ asks) last =
    (next : Stage) × Moves surface e stage a next × Goes surface e next asks last

-- a fault of an ask
abbrev pub IsAskFault : Result ℕ OwnerFault → Type 0
IsAskFault result = (result ≡ Err faults.Link) ⊎ (result ≡ Err faults.Memory)

-- The last ask was answered, and the stage says how the call ends, or memory ran out; or what is
-- due at the stage was asked, and that failed.
abbrev pub Closes : List ℕ → Errand → Stage → Option (List ℕ) → Result ℕ OwnerFault → Type 0
Closes surface e stage None result = (stage ≡ Ends result) ⊎ (result ≡ Err faults.Memory)
Closes surface e stage (Some frame) result = IsDue surface e stage frame × IsAskFault result

-- from this stage on these are the asks of the errand, and this is its result
abbrev pub TalksFrom : List ℕ → Errand → Stage → List Ask → Option (List ℕ) → Result ℕ OwnerFault
    → Type 0
TalksFrom surface e from asks unanswered result =
    (last : Stage) × Goes surface e from asks last × Closes surface e last unanswered result

-- these asks, with the one that failed, if one did, are those of the errand, and this is its result
abbrev pub Talks : List ℕ → Errand → List Ask → Option (List ℕ) → Result ℕ OwnerFault → Type 0
Talks surface e asks unanswered result = TalksFrom surface e start asks unanswered result
