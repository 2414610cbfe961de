-- An Accepted and a Refused are the machine's replies at the history of the last ask.
use Rattle.std.proofs.Common.{◌≡◌, ℕ, ◌∙◌, List, [], ◌∷◌, ◌++◌, Option, Some, None, Result, Ok, Err, refl, sym, ap, subst, inl, inr}
use Rattle.std.specs.Prelude.{nat_lt, ◌==◌, Bool, true, false, length}
use Rattle.ov_fields.specs.Fronts.{AreAllBytes}
use Rattle.ov_record.specs.Spelling.{HasForm}
use Rattle.ov_record.specs.Updates.{SealedUpdate}
use Rattle.ov_record.specs.Forms.{second_form}
use Rattle.ov_script.specs.declared.command.Command.{Command}
use Rattle.ov_script.specs.declared.reply.Reply.TheVariants as replies
use Rattle.ov_history.specs.Masters.{Masters}
use Rattle.ov_history.specs.Plain.{PlainHistory, history_of}
use Rattle.ov_history.specs.Refusals.{IsLegal}
use Rattle.ov_history.specs.Sealed.{SealedHistory}
use Rattle.ov_history.specs.Sealing.{IsSealedAs, sealed}
use Rattle.ov_model.specs.Step.{step}
use Rattle.ov_wire.specs.declared.request.Request.{Request}
use Rattle.ov_wire.specs.declared.answer.Answer.{Answer}
use Rattle.ov_wire.specs.declared.answer.Answer.TheVariants as answers
use Rattle.ov_wire.specs.AnswerReading.{answer_of}
use Rattle.ov_wire.specs.Requests.{HasRequestForm, request_bytes}
use Rattle.ov_protocol.specs.Serving.{Service, followed, served}
use Rattle.ov_protocol.specs.Answers.{Answers, made_by}
use Rattle.ov_peer.specs.Asks.{Along, AreRight, Ask}
use Rattle.ov_peer.specs.Tells.{IsReplyAt}
use Rattle.ov_peer.specs.Exchanges.{IsAnswerAt}
use Rattle.ov_peer.proofs.Telling.{answer_at}
use Rattle.ov_owner.specs.Errands.{Errand}
use Rattle.ov_owner.specs.Laws.{TalksAreSteps}
use Rattle.ov_owner.specs.Steps.{IsMachines, IsStep}
use Rattle.ov_owner.specs.Talks.{Asks, Closes, Ends, Goes, IsAfter, IsDue, Sends, Stage, after as stage_after, after_first, after_update, again_if, sends_if, start, update_request}
use Rattle.ov_owner.specs.declared.limits.TheConstants.{MAX_TRIES}
use Rattle.ov_owner.specs.declared.fault.OwnerFault.{OwnerFault}
use Rattle.ov_owner.specs.declared.fault.OwnerFault.TheVariants as faults
use Rattle.ov_owner.proofs.Agreeing.{answers_alike}
use Rattle.ov_owner.proofs.Answering.{refusal_makes}
use Rattle.ov_peer.proofs.Following.{followed-nil}
use Rattle.ov_owner.proofs.Stepping.{IsSealedAt, refused_step, update_accepted, update_refused}
use Rattle.ov_owner.proofs.Doing.{Does, does}
use Rattle.ov_owner.proofs.Telling.{under}

-- a step at the last of some histories is one at the last of more of them
longer : (k : Masters) (command : Command) (h : SealedHistory) (more : List SealedHistory)
    (last : SealedHistory) (result : Result ℕ OwnerFault)
    → IsMachines k command more last result → IsMachines k command (h ∷ more) last result
longer k command h [] last (Ok n) none = absurd none
longer k command h (g ∷ more) last (Ok n) is = is
longer k command h [] last (Err (faults.Refused why)) none = absurd none
longer k command h (g ∷ more) last (Err (faults.Refused why)) is = is
longer k command h more last (Err fault) is = tt

module _ (k : Masters) (command : Command) (e : Errand) (d : Does k command e) (base_check : List ℕ) where
  abbrev here : SealedHistory → Service
  here g = under k.surface base_check g

  -- what is known of what is served at a stage
  abbrev Ready : Stage → SealedHistory → Type 0
  Ready (Asks tries least) g = Unit {0}
  Ready (Sends tries epoch u) g = IsSealedAt k command e d base_check g epoch u
  Ready (Ends result) g = ⊥

  -- ---- a talk

  module _ (unanswered : Option (List ℕ)) (result : Result ℕ OwnerFault) (final : Stage)
      (closes : Closes k.surface e final unanswered result) (last : Service) where
    -- nothing is asked at the end
    nothing_due : (r : Result ℕ OwnerFault) (frame : List ℕ) → IsDue k.surface e (Ends r) frame → ⊥
    nothing_due r frame due = let none : None ≡ Some due.request = due.due in absurd cc

    by_end : (r : Result ℕ OwnerFault) (h : SealedHistory) (o : Option (List ℕ))
        → Closes k.surface e (Ends r) o result → IsMachines k command (h ∷ []) last.history r
        → IsMachines k command (h ∷ []) last.history result
    by_end r h None (inl is) step =
        let same : r ≡ result = cc in subst (IsMachines k command (h ∷ []) last.history) same step
    by_end r h None (inr memory) step =
        subst (IsMachines k command (h ∷ []) last.history) (sym memory) tt
    by_end r h (Some frame) (due, why) step = absurd (nothing_due r frame due)

    -- the call ended with the ask that was answered at this history
    ended : (r : Result ℕ OwnerFault) (h : SealedHistory) (v : Service) (rest : List Ask)
        (more : List SealedHistory)
        → Goes k.surface e (Ends r) rest final → Along v rest more last
        → (v ≡ last → IsMachines k command (h ∷ []) last.history r)
        → IsMachines k command (h ∷ more) last.history result
    ended r h v [] [] same along step =
        by_end r h unanswered (subst (λ (s : Stage). Closes k.surface e s unanswered result) (sym same) closes) (step along)
    ended r h v [] (x ∷ more) same along step = absurd along
    ended r h v (a ∷ rest) more (next, moves, goes) along step =
        absurd (nothing_due r a.request moves.asked)

    -- what is to be shown of a list of asks
    abbrev Steps : List Ask → Type 0
    Steps asks =
        (stage : Stage) (g : SealedHistory) (histories : List SealedHistory)
        → Ready stage g → Goes k.surface e stage asks final → Along (here g) asks histories last
        → AreRight k histories → IsMachines k command histories last.history result

    -- no ask is left, and the call ends with a fault of an ask
    none_left : (stage : Stage) (g : SealedHistory) (o : Option (List ℕ))
        (histories : List SealedHistory)
        → Ready stage g → Closes k.surface e stage o result
        → IsMachines k command histories last.history result
    none_left (Ends r) g o histories ready close = absurd ready
    none_left (Asks tries least) g None histories ready (inl is) = absurd cc
    none_left (Sends tries epoch u) g None histories ready (inl is) = absurd cc
    none_left stage g None histories ready (inr memory) =
        subst (IsMachines k command histories last.history) (sym memory) tt
    none_left stage g (Some frame) histories ready (due, inl link) =
        subst (IsMachines k command histories last.history) (sym link) tt
    none_left stage g (Some frame) histories ready (due, inr memory) =
        subst (IsMachines k command histories last.history) (sym memory) tt

    module _ (a : Ask) (rest : List Ask) (ih : Steps rest) (h : SealedHistory)
        (made : List SealedUpdate) (more : List SealedHistory)
        (along : Along (here (followed h made)) rest more last) (rights : AreRight k more) where
      -- the talk goes on with a stage after the ask
      on : (next : Stage) → Ready next (followed h made) → Goes k.surface e next rest final
          → IsMachines k command (h ∷ more) last.history result
      on next ready goes =
          longer k command h more last.history result (ih next (followed h made) more ready goes along rights)

      -- the talk ends after the ask
      off : (r : Result ℕ OwnerFault) → Goes k.surface e (Ends r) rest final
          → (followed h made ≡ last.history → IsMachines k command (h ∷ []) last.history r)
          → IsMachines k command (h ∷ more) last.history result
      off r goes step =
          ended r h (here (followed h made)) rest more goes along
          (λ same. step (ap (λ (v : Service). v.history) same))

      -- ---- after the first ask
      module _ (p : PlainHistory) (legal : IsLegal (history_of p)) (right : IsSealedAs k p h) where
        first_sends : (b : Bool) (tries : List ℕ) (epoch : ℕ) (u : SealedUpdate)
            → IsSealedAt k command e d base_check (followed h made) epoch u
            → Goes k.surface e (sends_if b tries epoch u) rest final
            → IsMachines k command (h ∷ more) last.history result
        first_sends true tries epoch u t goes = off (Err (faults.BadReply 1)) goes (λ same. tt)
        first_sends false tries epoch u t goes = on (Sends tries epoch u) t goes

        refused_first : (fault : OwnerFault) (answer : Answer) → e.sealed answer ≡ Err fault
            → IsAnswerAt (here h) e.first answer made
            → followed h made ≡ last.history
            → IsMachines k command (h ∷ []) last.history (Err fault)
        refused_first (faults.Refused why) answer is (inl (answered, makes_it)) same =
            let at_p : Answers (served (here (sealed k p))) e.first answer =
            answers_alike k base_check p h legal right e.first answer answered in
            let (refused, some) = d.makes.refused base_check p answer why legal at_p is in
            let none : made ≡ [] = makes_it ∙ ap (made_by e.first) refused ∙ refusal_makes e.first why in
            refused_step k command e d base_check p why h last.history legal right some
            (sym same ∙ ap (λ (us : List SealedUpdate). followed h us) none ∙ followed-nil h)
        refused_first (faults.Refused why) answer is (inr (disk, may, needs)) same =
            let other : e.sealed answer ≡ Err (faults.BadReply 0) = ap e.sealed disk ∙ d.makes.no_disk in
            absurd cc
        refused_first fault answer is at_h same = tt

        first_told : (told : Result (ℕ × SealedUpdate) OwnerFault) (tries : List ℕ) (least : ℕ)
            (answer : Answer) → e.sealed answer ≡ told
            → IsAnswerAt (here h) e.first answer made
            → Goes k.surface e (after_first tries least told) rest final
            → IsMachines k command (h ∷ more) last.history result
        first_told (Err fault) tries least answer is at_h goes =
            off (Err fault) goes (refused_first fault answer is at_h)
        first_told (Ok (epoch, u)) tries least answer is (inr (disk, may, needs)) goes =
            let other : e.sealed answer ≡ Err (faults.BadReply 0) = ap e.sealed disk ∙ d.makes.no_disk in
            absurd cc
        first_told (Ok (epoch, u)) tries least answer is (inl (answered, makes_it)) goes =
            let at_p : Answers (served (here (sealed k p))) e.first answer =
            answers_alike k base_check p h legal right e.first answer answered in
            let (at_epoch, is_sealed, free) = d.makes.told base_check p answer epoch u legal at_p is in
            first_sends (nat_lt epoch least) tries epoch u
            (record {
              p = p;
              legal = legal;
              asked = h;
              right = right;
              between = made;
              same = refl;
              at_epoch = at_epoch;
              is_sealed = is_sealed;
            }) goes

        first_read : (read : Result Answer ℕ) (tries : List ℕ) (least : ℕ) → HasRequestForm e.first
            → AreAllBytes a.reply → answer_of e.first a.reply ≡ read
            → IsReplyAt (here h) (request_bytes e.first) a.reply made
            → Goes k.surface e (stage_after e (Asks tries least) read) rest final
            → IsMachines k command (h ∷ more) last.history result
        first_read (Err place) tries least form bytes is replied goes =
            off (Err (faults.BadReply place)) goes (λ same. tt)
        first_read (Ok answer) tries least form bytes is replied goes =
            first_told (e.sealed answer) tries least answer refl
            (answer_at (here h) e.first answer a.reply made form bytes is replied) goes

      -- ---- after an update
      module _ (g : SealedHistory) (others : List SealedUpdate) (at_h : h ≡ followed g others)
          (tries : List ℕ) (epoch : ℕ) (u : SealedUpdate) (t : IsSealedAt k command e d base_check g epoch u) (form : HasForm second_form u) where
        stale_next : (b : Bool) (tried : List ℕ) (now : ℕ)
            → Goes k.surface e (again_if b tried now) rest final
            → IsMachines k command (h ∷ more) last.history result
        stale_next true tried now goes = off (Err (faults.Unsettled tried)) goes (λ same. tt)
        stale_next false tried now goes = on (Asks tried now) tt goes

        by_update : (answer : Answer)
            → IsAnswerAt (here (followed g others)) (update_request k.surface epoch u) answer made
            → Goes k.surface e (after_update tries epoch answer) rest final
            → IsMachines k command (h ∷ more) last.history result
        by_update (answers.Accepted n) (inl (answered, makes_it)) goes =
            off (Ok n) goes (λ same.
            subst (λ (x : SealedHistory). IsStep k command (replies.Accepted n) h x) same
            (subst (λ (x : SealedHistory). IsStep k command (replies.Accepted n) x (followed x made)) (sym at_h)
            (update_accepted k command e d base_check g others made epoch n u t form answered makes_it)))
        by_update (answers.Accepted n) (inr (disk, may, needs)) goes = absurd cc
        by_update (answers.Refused why) (inl (answered, makes_it)) goes =
            off (Err (faults.Refused why)) goes (λ same.
            subst (λ (x : SealedHistory). IsStep k command (replies.Refused why) h x) same
            (subst (λ (x : SealedHistory). IsStep k command (replies.Refused why) x (followed x made)) (sym at_h)
            (update_refused k command e d base_check g others made epoch why u t form answered makes_it)))
        by_update (answers.Refused why) (inr (disk, may, needs)) goes = absurd cc
        by_update (answers.Stale now) at_it goes =
            stale_next (length (tries ++ epoch ∷ []) == MAX_TRIES) (tries ++ epoch ∷ []) now goes
        by_update answers.BadTag at_it goes = off (Err faults.BadTag) goes (λ same. tt)
        by_update answers.DeviceFault at_it goes = off (Err faults.Device) goes (λ same. tt)
        by_update answers.NoMemory at_it goes = off (Err faults.Memory) goes (λ same. tt)
        by_update answer at_it goes = off (Err (faults.BadReply 0)) goes (λ same. tt)

        update_read : (read : Result Answer ℕ) → HasRequestForm (update_request k.surface epoch u)
            → AreAllBytes a.reply → answer_of (update_request k.surface epoch u) a.reply ≡ read
            → IsReplyAt (here (followed g others)) (request_bytes (update_request k.surface epoch u)) a.reply made
            → Goes k.surface e (stage_after e (Sends tries epoch u) read) rest final
            → IsMachines k command (h ∷ more) last.history result
        update_read (Err place) sendable bytes is replied goes =
            off (Err (faults.BadReply place)) goes (λ same. tt)
        update_read (Ok answer) sendable bytes is replied goes =
            by_update answer
            (answer_at (here (followed g others)) (update_request k.surface epoch u) answer a.reply made sendable bytes is replied)
            goes

    -- one ask
    one_ask : (a : Ask) (rest : List Ask) → Steps rest → Steps (a ∷ rest)
    one_ask a rest ih (Ends r) g histories ready goes along rights = absurd ready
    one_ask a rest ih stage g [] ready goes along rights = absurd along
    one_ask a rest ih (Asks tries least) g (h ∷ more) ready (next, moves, goes)
        (others, made, at_h, replied, along) ((p, legal, right), rights) = by_next moves.then where
          along_h : Along (here (followed h made)) rest more last
          along_h = subst (λ (x : SealedHistory). Along (here (followed x made)) rest more last) (sym at_h) along

          is_first : e.first ≡ moves.asked.request
          is_first = let due : Some e.first ≡ Some moves.asked.request = moves.asked.due in cc

          replied_so : IsReplyAt (here h) (request_bytes e.first) a.reply made
          replied_so =
              subst (λ (x : SealedHistory). IsReplyAt (here x) (request_bytes e.first) a.reply made) (sym at_h)
              (subst (λ (x : List ℕ). IsReplyAt (here (followed g others)) x a.reply made)
              (moves.asked.spelled ∙ ap request_bytes (sym is_first)) replied)

          by_next : IsAfter e (Asks tries least) moves.asked.request a.reply next
              → IsMachines k command (h ∷ more) last.history result
          by_next (inr memory) =
              off a rest ih h made more along_h rights (Err faults.Memory)
              (subst (λ (s : Stage). Goes k.surface e s rest final) memory goes) (λ same. tt)
          by_next (inl (bytes, is)) =
              first_read a rest ih h made more along_h rights p legal right (answer_of e.first a.reply) tries least
              moves.asked.form bytes refl replied_so
              (subst (λ (s : Stage). Goes k.surface e s rest final)
              (is ∙ ap (λ (r : Request). stage_after e (Asks tries least) (answer_of r a.reply)) (sym is_first)) goes)
    one_ask a rest ih (Sends tries epoch u) g (h ∷ more) ready (next, moves, goes)
        (others, made, at_h, replied, along) (right, rights) = by_next moves.then where
          request : Request
          request = update_request k.surface epoch u

          along_h : Along (here (followed h made)) rest more last
          along_h = subst (λ (x : SealedHistory). Along (here (followed x made)) rest more last) (sym at_h) along

          is_update : update_request k.surface epoch u ≡ moves.asked.request
          is_update =
              let due : Some (update_request k.surface epoch u) ≡ Some moves.asked.request = moves.asked.due in cc

          replied_so : IsReplyAt (here (followed g others)) (request_bytes (update_request k.surface epoch u)) a.reply made
          replied_so =
              subst (λ (x : List ℕ). IsReplyAt (here (followed g others)) x a.reply made)
              (moves.asked.spelled ∙ ap request_bytes (sym is_update)) replied

          by_next : IsAfter e (Sends tries epoch u) moves.asked.request a.reply next
              → IsMachines k command (h ∷ more) last.history result
          by_next (inr memory) =
              off a rest ih h made more along_h rights (Err faults.Memory)
              (subst (λ (s : Stage). Goes k.surface e s rest final) memory goes) (λ same. tt)
          by_next (inl (bytes, is)) =
              update_read a rest ih h made more along_h rights g others at_h tries epoch u ready moves.asked.form.0
              (answer_of (update_request k.surface epoch u) a.reply) moves.asked.form.1 bytes refl replied_so
              (subst (λ (s : Stage). Goes k.surface e s rest final)
              (is ∙ ap (λ (r : Request). stage_after e (Sends tries epoch u) (answer_of r a.reply)) (sym is_update)) goes)

    steps : (asks : List Ask) → Steps asks
    steps [] stage g histories ready same along rights =
        none_left stage g unanswered histories ready
        (subst (λ (s : Stage). Closes k.surface e s unanswered result) (sym same) closes)
    steps (a ∷ asks) stage g histories ready goes along rights =
        one_ask a asks (steps asks) stage g histories ready goes along rights

  -- a whole talk
  pub made_steps : (asks : List Ask) (unanswered : Option (List ℕ)) (result : Result ℕ OwnerFault)
      (g : SealedHistory) (last : Service) (histories : List SealedHistory)
      → (final : Stage) → Goes k.surface e start asks final → Closes k.surface e final unanswered result
      → Along (under k.surface base_check g) asks histories last → AreRight k histories
      → IsMachines k command histories last.history result
  made_steps asks unanswered result g last histories final goes closes along rights =
      steps unanswered result final closes last asks start g histories tt goes along rights

pub talks_are_steps : TalksAreSteps
talks_are_steps k command e asks unanswered result v last histories is (final, goes, closes) same along rights =
    let d = does k command e is in
    made_steps k command e d v.base_check asks unanswered result v.history last histories final goes closes
    (subst (λ (s : List ℕ). Along (under s v.base_check v.history) asks histories last) same along) rights
