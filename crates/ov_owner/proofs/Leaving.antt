-- What a call leaves of a server that nobody else updates: of any history, and of one that is right.
use Rattle.std.proofs.Common.{◌≡◌, ℕ, ◌+◌, ◌∙◌, List, [], ◌∷◌, Option, None, Result, Ok, refl, sym, ap, subst, inl, inr}
use Rattle.ov_record.specs.Updates.{SealedUpdate}
use Rattle.ov_script.specs.declared.command.Command.{Command}
use Rattle.ov_script.specs.declared.reply.Reply.{Reply}
use Rattle.ov_script.specs.declared.reply.Reply.TheVariants as replies
use Rattle.ov_history.specs.History.{epoch_of}
use Rattle.ov_history.specs.Layers.{layers_of}
use Rattle.ov_history.specs.Masters.{Masters}
use Rattle.ov_history.specs.Plain.{PlainHistory, history_of, measured, with_plain}
use Rattle.ov_history.specs.Refusals.{IsLegal, refusal_of}
use Rattle.ov_history.specs.Sealed.{SealedHistory, catalogue_of, file_names_of, with_sealed, with_spelled}
use Rattle.ov_history.specs.Sealing.{IsSealedAs, IsSealedSince, sealed, sealed_update}
use Rattle.ov_history.specs.Sent.{SealedUpdate as NumberedUpdate, numbered, spelled}
use Rattle.ov_model.specs.Step.{step, update_step}
use Rattle.ov_history.proofs.Since.{sealed_since, sealed_since_goes_on}
use Rattle.ov_wire.specs.declared.answer.Answer.{Answer}
use Rattle.ov_protocol.specs.Serving.{Service, followed, later, served}
use Rattle.ov_protocol.specs.Answers.{Answers}
use Rattle.ov_peer.specs.Asks.{Ask}
use Rattle.ov_peer.specs.Tells.{IsReplyAt}
use Rattle.ov_owner.specs.Alone.{AskedAlone, IsLeftBy, IsOneOrNone, IsSealedOf}
use Rattle.ov_owner.specs.Errands.{Errand}
use Rattle.ov_owner.specs.Laws.{OneUpdateAtMost}
use Rattle.ov_owner.specs.Steps.{IsErrandFor}
use Rattle.ov_owner.specs.Talks.{Asks, Ends, IsAfter, IsDue, Moves, Sends, Stage, Talks, update_request}
use Rattle.ov_owner.specs.declared.fault.OwnerFault.{OwnerFault}
use Rattle.ov_owner.proofs.Agreeing.{answers_alike, right_names}
use Rattle.ov_owner.proofs.Doing.{Does, does}
use Rattle.ov_owner.proofs.Making.{Stands, first_due, leaves_so, none_due, one_ask as any_ask, update_due}
use Rattle.ov_owner.proofs.Telling.{names_after, spelled_as, under}

-- ---- any history

-- a call makes nothing, or its one update
pub leaves_one : (k : Masters) (command : Command) (e : Errand) (asks : List Ask)
    (unanswered : Option (List ℕ)) (result : Result ℕ OwnerFault) (v last : Service)
    → IsErrandFor k.base command e → Talks k.surface e asks unanswered result
    → AskedAlone v asks unanswered last → IsLeftBy e v last
leaves_one k command e asks unanswered result v last is talks alone =
    let d = does k command e is in
    leaves_so k.surface e d.makes.no_update d.makes.no_disk v (IsSealedOf v e)
    (λ a epoch u answered seals. record { answer = a; answered = answered; seals = seals })
    (IsLeftBy e v) (inl refl) (λ epoch u sealed_so. inr (epoch, u, sealed_so, refl))
    asks unanswered result last talks alone

-- ---- a history that is right

module _ (k : Masters) (command : Command) (e : Errand) (d : Does k command e) (base_check : List ℕ) (p : PlainHistory) (legal : IsLegal (history_of p)) where
  abbrev pub serving : SealedHistory → Service
  serving g = under k.surface base_check g

  -- the update was sealed of an answer at this history, which doesn't refuse it
  pub record IsReady (epoch : ℕ) (u : SealedUpdate) : Type 0 where
    pub at_epoch : epoch ≡ (catalogue_of k.surface (sealed k p)).epoch
    pub is_sealed : numbered (names_after p) u
        ≡ sealed_update k (layers_of (history_of p)) (d.plain p)
    pub free : refusal_of (history_of p) (measured (d.plain p)) ≡ None

  -- the update is the spelling of what the owner seals at this history
  pub is_spelling : (epoch : ℕ) (u : SealedUpdate) → IsReady epoch u
      → spelled (names_after p) (sealed_update k (layers_of (history_of p)) (d.plain p)) ≡ u
  is_spelling epoch u ready = spelled_as k p legal (d.plain p) u ready.is_sealed ready.free

  -- what is left is right by that history, or it is sealed of that with the command's update
  abbrev Left : Service → Type 0
  Left w = IsOneOrNone k p command w.history

  pub is_first : (tries : List ℕ) (least : ℕ) (frame : List ℕ)
      (due : IsDue k.surface e (Asks tries least) frame) → e.first ≡ due.request
  is_first tries least frame due = first_due k.surface e tries least frame due

  pub is_update : (tries : List ℕ) (epoch : ℕ) (u : SealedUpdate) (frame : List ℕ)
      (due : IsDue k.surface e (Sends tries epoch u) frame)
      → update_request k.surface epoch u ≡ due.request
  is_update tries epoch u frame due = update_due k.surface e tries epoch u frame due

  pub nothing_due : (r : Result ℕ OwnerFault) (frame : List ℕ) → IsDue k.surface e (Ends r) frame → ⊥
  nothing_due r frame due = none_due k.surface e r frame due

  -- ---- what is served before the call

  module _ (s : SealedHistory) (right : IsSealedAs k p s) where
    sealed_ready : (a : Answer) (epoch : ℕ) (u : SealedUpdate)
        → Answers (served (serving s)) e.first a → e.sealed a ≡ Ok (epoch, u)
        → IsReady epoch u
    sealed_ready a epoch u answered is =
        let at_p = answers_alike k base_check p s legal right e.first a answered in
        let (at_epoch, is_sealed, free) = d.makes.told base_check p a epoch u legal at_p is in
        record { at_epoch = at_epoch; is_sealed = is_sealed; free = free }

    ready_left : (epoch : ℕ) (u : SealedUpdate) → IsReady epoch u
        → Left (later (serving s) (u ∷ []))
    ready_left epoch u ready =
        let next : step p command ≡ (replies.Accepted (epoch_of (history_of p) + 1), with_plain p (d.plain p)) =
        d.as_update p ∙ ap (update_step p (d.plain p)) ready.free in
        let numbered_here : numbered (file_names_of s) u
        ≡ sealed_update k (layers_of (history_of p)) (d.plain p) =
        ap (λ (names : List (List ℕ)). numbered names u) (right_names k p s right)
        ∙ ready.is_sealed in
        inr (subst (λ (x : Reply × PlainHistory). IsSealedSince k p x.1 (with_spelled s u))
        (sym next)
        (subst
        (λ (v : NumberedUpdate). IsSealedSince k p (with_plain p (d.plain p)) (with_sealed s v))
        (sym numbered_here) (sealed_since_goes_on k p p (d.plain p) s (sealed_since k p s right))))

    -- what is served at a stage
    abbrev pub Serves : Stage → SealedHistory → Type 0
    Serves (Asks tries least) g = g ≡ s
    Serves (Sends tries epoch u) g = (g ≡ s) × IsReady epoch u
    Serves (Ends result) g = IsOneOrNone k p command g

    abbrev StandsHere : Stage → SealedHistory → Type 0
    StandsHere stage g =
        Stands k.surface e d.makes.no_update d.makes.no_disk (serving s) IsReady
        sealed_ready Left (inl right) ready_left stage (serving g)

    to_stands : (stage : Stage) (g : SealedHistory) → Serves stage g → StandsHere stage g
    to_stands (Asks tries least) g same = ap serving same
    to_stands (Sends tries epoch u) g (same, ready) = (ap serving same, ready)
    to_stands (Ends result) g left = left

    from_stands : (stage : Stage) (g : SealedHistory) → StandsHere stage g → Serves stage g
    from_stands (Asks tries least) g same = ap (λ (w : Service). w.history) same
    from_stands (Sends tries epoch u) g (same, ready) =
        (ap (λ (w : Service). w.history) same, ready)
    from_stands (Ends result) g left = left

    pub one_ask : (stage next : Stage) (a : Ask) (g : SealedHistory) (made : List SealedUpdate)
        (moves : Moves k.surface e stage a next) → Serves stage g
        → IsReplyAt (serving g) a.request a.reply made
        → IsAfter e stage moves.asked.request a.reply next → Serves next (followed g made)
    one_ask stage next a g made moves serves replied then =
        from_stands next (followed g made)
        (any_ask k.surface e d.makes.no_update d.makes.no_disk (serving s) IsReady
        sealed_ready Left (inl right) ready_left stage next a (serving g) made moves
        (to_stands stage g serves) replied then)

    leaves_right : (asks : List Ask) (unanswered : Option (List ℕ)) (result : Result ℕ OwnerFault)
        (last : Service)
        → Talks k.surface e asks unanswered result
        → AskedAlone (serving s) asks unanswered last → Left last
    leaves_right asks unanswered result last talks alone =
        leaves_so k.surface e d.makes.no_update d.makes.no_disk (serving s) IsReady
        sealed_ready Left (inl right) ready_left asks unanswered result last talks alone

pub one_update_at_most : OneUpdateAtMost
one_update_at_most k command e asks unanswered result v last p is talks same legal right alone =
    leaves_right k command e (does k command e is) v.base_check p legal v.history right asks
    unanswered result last talks
    (subst (λ (s : List ℕ). AskedAlone (under s v.base_check v.history) asks unanswered last) same
    alone)
