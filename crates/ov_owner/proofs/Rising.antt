-- The epochs of stale tries rise.
use Rattle.std.proofs.Common.{◌≡◌, ℕ, ◌<◌, ◌∙◌, List, [], ◌∷◌, ◌++◌, length, length-append, Option, Some, None, Result, Ok, Err, refl, sym, ap, subst, inl, inr, arith, lit<}
use Rattle.std.specs.Prelude.{nat_lt, ◌==◌, Bool, true, false}
use Rattle.std.proofs.lemmas.Bool.Decides.{nat_tests}
use Rattle.ov_fields.specs.Fronts.{AreAllBytes}
use Rattle.ov_record.specs.Updates.{SealedUpdate}
use Rattle.ov_script.specs.declared.command.Command.{Command}
use Rattle.ov_script.specs.declared.command.Command.TheVariants as commands
use Rattle.ov_wire.specs.declared.request.Request.{Request}
use Rattle.ov_wire.specs.declared.answer.Known.{Known}
use Rattle.ov_wire.specs.declared.answer.Plan.{Plan}
use Rattle.ov_wire.specs.declared.answer.Answer.{Answer}
use Rattle.ov_wire.specs.declared.answer.Answer.TheVariants as answers
use Rattle.ov_wire.specs.AnswerReading.{answer_of}
use Rattle.ov_wire.specs.AnswersTo.{IsAnswer}
use Rattle.ov_peer.specs.Asks.{Ask}
use Rattle.ov_owner.specs.Errands.{Errand, known_of, plan_of, sealed_by}
use Rattle.ov_owner.specs.Laws.{StaleEpochsRise}
use Rattle.ov_owner.specs.Steps.{IsErrandFor}
use Rattle.ov_owner.specs.Talks.{Asks, Closes, Ends, Goes, IsAfter, Moves, Sends, Stage, after, after_first, after_update, again_if, sends_if, start, update_request}
use Rattle.ov_owner.specs.declared.limits.TheConstants.{MAX_TRIES}
use Rattle.ov_owner.specs.declared.fault.OwnerFault.{OwnerFault}
use Rattle.ov_owner.specs.declared.fault.OwnerFault.TheVariants as faults
use Rattle.ov_client.specs.Rising.{Rises}
use Rattle.ov_client.proofs.Answering.{answer_is}
use Rattle.ov_client.proofs.Rising.{rises_more, rises_up}

-- the fault isn't Unsettled
abbrev IsOther : Result (ℕ × SealedUpdate) OwnerFault → Type 0
IsOther told = (epochs : List ℕ) → told ≡ Err (faults.Unsettled epochs) → ⊥

known_other : (a : Answer) (seal : Known → ℕ × SealedUpdate) → IsOther (sealed_by seal (known_of a))
known_other (answers.Known known) seal epochs is = cc
known_other (answers.Refused why) seal epochs is = cc
known_other answers.NoMemory seal epochs is = cc
known_other a seal epochs is = cc

plan_other : (a : Answer) (seal : Plan → ℕ × SealedUpdate) → IsOther (sealed_by seal (plan_of a))
plan_other (answers.Plan plan) seal epochs is = cc
plan_other (answers.Refused why) seal epochs is = cc
plan_other answers.NoMemory seal epochs is = cc
plan_other a seal epochs is = cc

-- what is sealed of no answer is Unsettled
errand_other : (base : List ℕ) (command : Command) (e : Errand) → IsErrandFor base command e
    → (a : Answer) → IsOther (e.sealed a)
errand_other base (commands.Enrol user) e is a =
    subst (λ (x : Errand). IsOther (x.sealed a)) (sym is) (known_other a _)
errand_other base (commands.Create file names bytes) e is a =
    subst (λ (x : Errand). IsOther (x.sealed a)) (sym is) (plan_other a _)
errand_other base (commands.Grant user file) e is a =
    subst (λ (x : Errand). IsOther (x.sealed a)) (sym is) (known_other a _)
errand_other base (commands.Revoke user file) e is a =
    subst (λ (x : Errand). IsOther (x.sealed a)) (sym is) (known_other a _)
errand_other base (commands.Remove file) e is a =
    subst (λ (x : Errand). IsOther (x.sealed a)) (sym is) (known_other a _)
errand_other base (commands.Replace file bytes) e is a =
    subst (λ (x : Errand). IsOther (x.sealed a)) (sym is) (plan_other a _)
errand_other base command e is a = absurd is

abbrev AllRise : List ℕ → Type 0
AllRise epochs = (length epochs ≡ MAX_TRIES) × Rises epochs

module _ (surface : List ℕ) (e : Errand) (other : (a : Answer) → IsOther (e.sealed a)) where
  -- the tries so far rise, and so does what comes next
  abbrev Rising : Stage → Type 0
  Rising (Asks tries least) = Rises (tries ++ least ∷ []) × (length tries < MAX_TRIES)
  Rising (Sends tries epoch u) = Rises (tries ++ epoch ∷ []) × (length tries < MAX_TRIES)
  Rising (Ends result) = (epochs : List ℕ) → result ≡ Err (faults.Unsettled epochs) → AllRise epochs

  sends_rising : (b : Bool) (tries : List ℕ) (least epoch : ℕ) (u : SealedUpdate)
      → nat_lt epoch least ≡ b → Rises (tries ++ least ∷ []) → length tries < MAX_TRIES
      → Rising (sends_if b tries epoch u)
  sends_rising true tries least epoch u is rises few = λ epochs wrong. absurd (cc wrong)
  sends_rising false tries least epoch u is rises few =
      (rises_up tries least epoch rises (grind (arith, nat_tests)), few)

  first_rising : (told : Result (ℕ × SealedUpdate) OwnerFault) (tries : List ℕ) (least : ℕ)
      → IsOther told → Rises (tries ++ least ∷ []) → length tries < MAX_TRIES
      → Rising (after_first tries least told)
  first_rising (Err fault) tries least not rises few =
      λ epochs is. absurd (not epochs (ap (λ (r : Result ℕ OwnerFault). told_of r) is)) where
        told_of : Result ℕ OwnerFault → Result (ℕ × SealedUpdate) OwnerFault
        told_of (Ok n) = Err fault
        told_of (Err other) = Err other
  first_rising (Ok (epoch, u)) tries least not rises few =
      sends_rising (nat_lt epoch least) tries least epoch u refl rises few

  again_rising : (b : Bool) (tries : List ℕ) (epoch now : ℕ)
      → (length (tries ++ epoch ∷ []) == MAX_TRIES) ≡ b
      → Rises (tries ++ epoch ∷ []) → length tries < MAX_TRIES → epoch < now
      → Rising (again_if b (tries ++ epoch ∷ []) now)
  again_rising true tries epoch now is rises few lt =
      let all : length (tries ++ epoch ∷ []) ≡ MAX_TRIES = grind (arith, nat_tests) in
      λ epochs same. let these : tries ++ epoch ∷ [] ≡ epochs = cc in subst AllRise these (all, rises)
  again_rising false tries epoch now is rises few lt =
      let one = length-append tries (epoch ∷ []) in
      let few_yet : length (tries ++ epoch ∷ []) < MAX_TRIES = grind (arith, nat_tests, one) in
      (rises_more tries epoch now rises lt, few_yet)

  update_rising : (a : Answer) (tries : List ℕ) (epoch : ℕ) (u : SealedUpdate)
      → IsAnswer (update_request surface epoch u) a
      → Rises (tries ++ epoch ∷ []) → length tries < MAX_TRIES
      → Rising (after_update tries epoch a)
  update_rising (answers.Accepted now) tries epoch u is rises few = λ epochs wrong. absurd (cc wrong)
  update_rising (answers.Refused why) tries epoch u is rises few = λ epochs wrong. absurd (cc wrong)
  update_rising (answers.Stale now) tries epoch u is rises few =
      again_rising (length (tries ++ epoch ∷ []) == MAX_TRIES) tries epoch now refl rises few is.0
  update_rising answers.BadTag tries epoch u is rises few = λ epochs wrong. absurd (cc wrong)
  update_rising answers.DeviceFault tries epoch u is rises few = λ epochs wrong. absurd (cc wrong)
  update_rising answers.NoMemory tries epoch u is rises few = λ epochs wrong. absurd (cc wrong)
  update_rising a tries epoch u is rises few = λ epochs wrong. absurd (cc wrong)

  read_rising : (stage : Stage) (request : Request) (reply : List ℕ) (read : Result Answer ℕ)
      → Rising stage → AreAllBytes reply → answer_of request reply ≡ read
      → ((tries : List ℕ) (epoch : ℕ) (u : SealedUpdate) → stage ≡ Sends tries epoch u
      → request ≡ update_request surface epoch u)
      → Rising (after e stage read)
  read_rising (Ends result) request reply read rising bytes reads due = rising
  read_rising (Asks tries least) request reply (Err place) rising bytes reads due = λ epochs wrong. absurd (cc wrong)
  read_rising (Sends tries epoch u) request reply (Err place) rising bytes reads due = λ epochs wrong. absurd (cc wrong)
  read_rising (Asks tries least) request reply (Ok a) (rises, few) bytes reads due =
      first_rising (e.sealed a) tries least (other a) rises few
  read_rising (Sends tries epoch u) request reply (Ok a) (rises, few) bytes reads due =
      update_rising a tries epoch u
      (subst (λ (r : Request). IsAnswer r a) (due tries epoch u refl) (answer_is request reply a bytes reads)) rises few

  is_update : (stage : Stage) (a : Ask) (next : Stage) (moves : Moves surface e stage a next)
      (tries : List ℕ) (epoch : ℕ) (u : SealedUpdate) → stage ≡ Sends tries epoch u
      → moves.asked.request ≡ update_request surface epoch u
  is_update (Asks other_tries least) a next moves tries epoch u is = absurd (cc is)
  is_update (Ends result) a next moves tries epoch u is = absurd (cc is)
  is_update (Sends other_tries at_epoch v) a next moves tries epoch u is =
      let due : Some (update_request surface at_epoch v) ≡ Some moves.asked.request = moves.asked.due in
      let epochs : at_epoch ≡ epoch = cc is in
      let updates : v ≡ u = cc is in
      let request : moves.asked.request ≡ update_request surface at_epoch v = cc due in
      request ∙ (λ i. update_request surface (epochs i) (updates i))

  after_rising : (stage : Stage) (a : Ask) (next : Stage) (moves : Moves surface e stage a next)
      → Rising stage → IsAfter e stage moves.asked.request a.reply next → Rising next
  after_rising stage a next moves rising (inl (bytes, is)) =
      subst Rising (sym is)
      (read_rising stage moves.asked.request a.reply (answer_of moves.asked.request a.reply) rising bytes refl
      (is_update stage a next moves))
  after_rising stage a next moves rising (inr memory) =
      subst Rising (sym memory) (λ epochs wrong. absurd (cc wrong))

  goes_rising : (stage final : Stage) (asks : List Ask) → Rising stage
      → Goes surface e stage asks final → Rising final
  goes_rising stage final [] rising same = subst Rising same rising
  goes_rising stage final (a ∷ asks) rising (next, moves, goes) =
      goes_rising next final asks (after_rising stage a next moves rising moves.then) goes

  ends_rising : (final : Stage) (o : Option (List ℕ)) (epochs : List ℕ) → Rising final
      → Closes surface e final o (Err (faults.Unsettled epochs)) → AllRise epochs
  ends_rising final None epochs rising (inl is) =
      let at_end : Rising (Ends (Err (faults.Unsettled epochs))) = subst Rising is rising in
      at_end epochs refl
  ends_rising final None epochs rising (inr memory) = absurd (cc memory)
  ends_rising final (Some frame) epochs rising (due, inl link) = absurd (cc link)
  ends_rising final (Some frame) epochs rising (due, inr memory) = absurd (cc memory)

pub stale_epochs_rise : StaleEpochsRise
stale_epochs_rise surface base command e asks unanswered epochs is (final, goes, closes) =
    let other = errand_other base command e is in
    ends_rising surface e other final unanswered epochs
    (goes_rising surface e other start final asks (tt, lit< tt) goes) closes
