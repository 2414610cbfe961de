-- Where an owner's call ends with a fault of the server's disk, the server replied that its disk
-- failed.
use Rattle.std.proofs.Common.{◌≡◌, ℕ, List, [], ◌∷◌, ◌++◌, length, Bool, true, false}
use Rattle.std.proofs.Common.{Option, Some, None, Result, Ok, Err, refl, sym, subst, inl, inr}
use Rattle.std.specs.Prelude.{nat_lt, ◌==◌}
use Rattle.ov_fields.specs.Fronts.{AreAllBytes}
use Rattle.ov_history.specs.Catalogue.{Catalogue}
use Rattle.ov_owner.specs.Calls.{Runs}
use Rattle.ov_owner.specs.Errands.{Errand, known_of, plan_of}
use Rattle.ov_owner.specs.Errands.{sealed_by}
use Rattle.ov_owner.specs.Steps.{IsErrandFor}
use Rattle.ov_owner.specs.Talks.{Asks, Closes, Ends, Goes, IsAfter, IsDue, Moves, Sends, Stage}
use Rattle.ov_owner.specs.Talks.{after, after_first, after_update, again_if, asked_at, sends_if}
use Rattle.ov_owner.specs.Talks.{start}
use Rattle.ov_owner.specs.Talks.{update_request}
use Rattle.ov_owner.specs.declared.fault.OwnerFault.{OwnerFault}
use Rattle.ov_owner.specs.declared.fault.OwnerFault.TheVariants as faults
use Rattle.ov_owner.specs.declared.limits.TheConstants.{MAX_TRIES}
use Rattle.ov_client.specs.Completeness.{FailsDisk}
use Rattle.ov_client.proofs.FailingDisks.{fails_later}
use Rattle.ov_peer.specs.Alone.{IsAlone}
use Rattle.ov_peer.specs.Asks.{Ask, EndsAt, Leads}
use Rattle.ov_peer.specs.Tells.{PeerTells}
use Rattle.ov_protocol.proofs.Reading.{replies_are_read}
use Rattle.ov_protocol.specs.Answers.{Answers}
use Rattle.ov_protocol.specs.Replies.{Replies}
use Rattle.ov_protocol.specs.Serving.{Service, Serving, later, served}
use Rattle.ov_protocol.specs.Updating.{AnswersSpelled}
use Rattle.ov_record.specs.Reading.{update_of}
use Rattle.ov_record.specs.Spelling.{spelling}
use Rattle.ov_record.specs.Updates.{SealedUpdate}
use Rattle.ov_record.specs.Forms.{second_form}
use Rattle.ov_script.specs.declared.command.Command.{Command}
use Rattle.ov_script.specs.declared.command.Command.TheVariants as commands
use Rattle.ov_wire.specs.AnswerReading.{answer_of}
use Rattle.ov_wire.specs.Requests.{HasRequestForm, request_bytes}
use Rattle.ov_wire.specs.declared.answer.Answer.{Answer}
use Rattle.ov_wire.specs.declared.answer.Answer.TheVariants as answers
use Rattle.ov_wire.specs.declared.answer.Known.{Known}
use Rattle.ov_wire.specs.declared.answer.Plan.{Plan}
use Rattle.ov_wire.specs.declared.request.Request.{Request}

-- a stage that isn't the end by a fault of the disk
abbrev IsOther : Stage → Type 0
IsOther (Ends (Err faults.Device)) = ⊥
IsOther stage = Unit {0}

-- what is sealed isn't a fault of the disk
abbrev IsOtherSealed : Result (ℕ × SealedUpdate) OwnerFault → Type 0
IsOtherSealed (Err faults.Device) = ⊥
IsOtherSealed told = Unit {0}

known_other : (seal : Known → ℕ × SealedUpdate) (a : Answer)
    → IsOtherSealed (sealed_by seal (known_of a))
known_other seal (answers.Known known) = tt
known_other seal (answers.Refused why) = tt
known_other seal answers.NoMemory = tt
known_other seal a = tt

plan_other : (seal : Plan → ℕ × SealedUpdate) (a : Answer)
    → IsOtherSealed (sealed_by seal (plan_of a))
plan_other seal (answers.Plan plan) = tt
plan_other seal (answers.Refused why) = tt
plan_other seal answers.NoMemory = tt
plan_other seal a = tt

errand_other : (command : Command) (base : List ℕ) (e : Errand) (a : Answer)
    → IsErrandFor base command e → IsOtherSealed (e.sealed a)
errand_other (commands.Enrol user) base e a is =
    subst (λ (x : Errand). IsOtherSealed (x.sealed a)) (sym is) (known_other _ a)
errand_other (commands.Grant user file) base e a is =
    subst (λ (x : Errand). IsOtherSealed (x.sealed a)) (sym is) (known_other _ a)
errand_other (commands.Revoke user file) base e a is =
    subst (λ (x : Errand). IsOtherSealed (x.sealed a)) (sym is) (known_other _ a)
errand_other (commands.Remove file) base e a is =
    subst (λ (x : Errand). IsOtherSealed (x.sealed a)) (sym is) (known_other _ a)
errand_other (commands.Create file names bytes) base e a is =
    subst (λ (x : Errand). IsOtherSealed (x.sealed a)) (sym is) (plan_other _ a)
errand_other (commands.Replace file bytes) base e a is =
    subst (λ (x : Errand). IsOtherSealed (x.sealed a)) (sym is) (plan_other _ a)
errand_other command base e a is = absurd is

sends_other : (b : Bool) (tries : List ℕ) (epoch : ℕ) (u : SealedUpdate)
    → IsOther (sends_if b tries epoch u)
sends_other true tries epoch u = tt
sends_other false tries epoch u = tt

first_other : (tries : List ℕ) (least : ℕ) (told : Result (ℕ × SealedUpdate) OwnerFault)
    → IsOtherSealed told → IsOther (after_first tries least told)
first_other tries least (Ok (epoch, u)) other = sends_other (nat_lt epoch least) tries epoch u
first_other tries least (Err (faults.Refused why)) other = tt
first_other tries least (Err faults.Link) other = tt
first_other tries least (Err (faults.BadReply place)) other = tt
first_other tries least (Err faults.BadTag) other = tt
first_other tries least (Err faults.Device) other = other
first_other tries least (Err (faults.Unsettled epochs)) other = tt
first_other tries least (Err faults.Memory) other = tt

again_other : (b : Bool) (tries : List ℕ) (least : ℕ) → IsOther (again_if b tries least)
again_other true tries least = tt
again_other false tries least = tt

spelled_other : (c : Catalogue) (read : Result SealedUpdate ℕ)
    → AnswersSpelled c read answers.DeviceFault → ⊥
spelled_other c (Ok u) is = is
spelled_other c (Err place) is = cc is

-- no answer by what is shown says that the disk failed
update_other : (s : Serving) (surface : List ℕ) (tries : List ℕ) (epoch : ℕ) (u : SealedUpdate)
    (a : Answer)
    → Answers s (update_request surface epoch u) a → IsOther (after_update tries epoch a)
update_other s surface tries epoch u (answers.Accepted now) is = tt
update_other s surface tries epoch u (answers.Refused why) is = tt
update_other s surface tries epoch u (answers.Stale now) is =
    again_other (length (tries ++ epoch ∷ []) == MAX_TRIES) (tries ++ epoch ∷ []) now
update_other s surface tries epoch u answers.BadTag is = tt
update_other s surface tries epoch u answers.DeviceFault (tagged, now, is) =
    absurd (spelled_other s.catalogue (update_of second_form (spelling second_form u)) is)
update_other s surface tries epoch u answers.NoMemory is = tt
update_other s surface tries epoch u a is = tt

module _ {P : Type 0} (peer : PeerTells P)
    (alone : IsAlone peer) where
  module _ (surface : List ℕ) (command : Command) (e : Errand) (base : List ℕ)
      (is : IsErrandFor base command e) where
    read_other : (v : Service) (stage : Stage) (request : Request) (reply : List ℕ)
        (made : List SealedUpdate) (read : Result Answer ℕ)
        → asked_at surface e stage ≡ Some request → HasRequestForm request
        → AreAllBytes reply → answer_of request reply ≡ read
        → Replies (served v) (request_bytes request) reply made
        → IsOther (after e stage read)
    read_other v (Ends result) request reply made read due form bytes reads replies =
        absurd (cc due)
    read_other v (Asks tries least) request reply made (Err place) due form bytes reads replies = tt
    read_other v (Sends tries epoch u) request reply made (Err place) due form bytes reads replies =
        tt
    read_other v (Asks tries least) request reply made (Ok a) due form bytes reads replies =
        first_other tries least (e.sealed a) (errand_other command base e a is)
    read_other v (Sends tries epoch u) request reply made (Ok a) due form bytes reads replies =
        let same : request ≡ update_request surface epoch u = cc due in
        update_other (served v) surface tries epoch u a
        (subst (λ (x : Request). Answers (served v) x a) same
        (replies_are_read (served v) request reply made a bytes form replies reads).0)

    form_of : (stage : Stage) (frame : List ℕ) (due : IsDue surface e stage frame)
        → HasRequestForm due.request
    form_of (Asks tries least) frame due =
        let same : e.first ≡ due.request = cc due.due in subst HasRequestForm same due.form
    form_of (Sends tries epoch u) frame due =
        let same : update_request surface epoch u ≡ due.request = cc due.due in
        subst HasRequestForm same due.form.1
    form_of (Ends result) frame due = absurd due.form

    move_other : (v : Service) (stage next : Stage) (a : Ask) (made : List SealedUpdate)
        (moves : Moves surface e stage a next)
        → Replies (served v) a.request a.reply made → IsOther next
    move_other v stage next a made moves replies = by moves.then where
      at_it : Replies (served v) (request_bytes moves.asked.request) a.reply made
      at_it = subst (λ (f : List ℕ). Replies (served v) f a.reply made) moves.asked.spelled replies

      by : IsAfter e stage moves.asked.request a.reply next → IsOther next
      by (inr memory) = subst IsOther (sym memory) tt
      by (inl (bytes, moved)) =
          subst IsOther (sym moved)
          (read_other v stage moves.asked.request a.reply made
          (answer_of moves.asked.request a.reply) moves.asked.due
          (form_of stage a.request moves.asked) bytes refl at_it)

    goes_fails : (asks : List Ask) (stage : Stage) (p q : P) (v : Service) → IsOther stage
        → Goes surface e stage asks (Ends (Err faults.Device)) → Leads peer p asks q
        → peer.serves p v
        → FailsDisk peer p q
    goes_fails [] stage p q v other goes leads serving = absurd (subst IsOther goes other)
    goes_fails (a ∷ asks) stage p q v other (next, moves, goes) (n, one, rest) serving =
        let (made, at_v, goes_on) = alone p n a.request a.reply v one serving in
        elim at_v [
          | inl replies ↦ fails_later peer p n q a.request a.reply one
              (goes_fails asks next n q (later v made)
              (move_other v stage next a made moves replies) goes rest goes_on)
          | inr fault ↦ record {
            earlier = [];
            before = p;
            leads = refl;
            request = a.request;
            reply = a.reply;
            after = n;
            asks = one;
            more = asks;
            goes_on = rest;
            service = v;
            serving = serving;
            made = made;
            fault = fault;
          }
        ]

    ends_there : (final : Stage) (o : Option (List ℕ)) (m q : P)
        → Closes surface e final o (Err faults.Device) → EndsAt peer m o q
        → (final ≡ Ends (Err faults.Device)) × (m ≡ q)
    ends_there final None m q (inl e) ends = (e, ends)
    ends_there final None m q (inr e) ends = absurd (cc e)
    ends_there final (Some frame) m q (due, inl e) ends = absurd (cc e)
    ends_there final (Some frame) m q (due, inr e) ends = absurd (cc e)

    -- an update that ends so was replied that the disk failed
    pub update_fails : (p q : P) (v : Service)
        → Runs peer surface e p q (Err faults.Device) → peer.serves p v
        → FailsDisk peer p q
    update_fails p q v runs serving =
        let (m, leads, ends) = runs.are_asks in
        let (final, goes, closes) = runs.talks in
        let both = ends_there final runs.unanswered m q closes ends in
        subst (FailsDisk peer p) both.1
        (goes_fails runs.asks start p m v tt
        (subst (λ (s : Stage). Goes surface e start runs.asks s) both.0 goes) leads serving)
