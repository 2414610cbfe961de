-- An update of a server that nobody else updates is made or refused as the machine does, or cut off.
use Rattle.std.proofs.Common.{◌≡◌, ◌∙◌, ℕ, List, [], ◌∷◌, Option, Some, None}
use Rattle.std.proofs.Common.{Result, Ok, Err, refl, sym, ap, subst, inl, inr}
use Rattle.ov_base.specs.Causes.{Rose}
use Rattle.ov_base.specs.declared.refusal.Refusal.{Refusal}
use Rattle.ov_record.specs.Updates.{SealedUpdate}
use Rattle.ov_script.specs.declared.command.Command.{Command}
use Rattle.ov_script.specs.declared.reply.Reply.{Reply}
use Rattle.ov_script.specs.declared.reply.Reply.TheVariants as replies
use Rattle.ov_history.specs.FadingLaws.{IsRight}
use Rattle.ov_history.specs.Masters.{Masters}
use Rattle.ov_history.specs.Plain.{PlainHistory, history_of, measured}
use Rattle.ov_history.specs.Refusals.{IsLegal, refusal_of}
use Rattle.ov_history.specs.Sealed.{SealedHistory}
use Rattle.ov_history.specs.Sealing.{IsSealedAs, IsSealedSince}
use Rattle.ov_history.proofs.Keeping.{legal-push}
use Rattle.ov_history.proofs.PlainLaws.{history_of-push}
use Rattle.ov_model.specs.Step.{after, reply_to, update_step}
use Rattle.ov_model.proofs.Alike.{right_histories_step_alike}
use Rattle.ov_protocol.specs.Serving.{Service, followed, later}
use Rattle.ov_protocol.proofs.Leaving.{later-nil}
use Rattle.ov_peer.specs.Alone.{IsAlone}
use Rattle.ov_peer.specs.Asks.{Along, AreRight, Ask, EndsAt}
use Rattle.ov_peer.specs.Tells.{IsReplyAt, PeerTells}
use Rattle.ov_client.specs.Completeness.{FailsDisk, IsStoreUnder}
use Rattle.ov_client.specs.Laws.{AllAre}
use Rattle.ov_owner.specs.Alone.{AnsweredAlone, MakesOneOrNone}
use Rattle.ov_owner.specs.Calls.{Runs}
use Rattle.ov_owner.specs.Changes.{command_of, errand_of}
use Rattle.ov_owner.specs.Completeness.{IsCompleteCall, IsSaidOrCut, SaysUpdate, StepsTo}
use Rattle.ov_owner.specs.Errands.{Errand}
use Rattle.ov_owner.specs.Laws.{IsProper}
use Rattle.ov_owner.specs.Steps.{IsErrandFor, IsLastStep, IsMachines}
use Rattle.ov_owner.specs.Talks.{Asks, Closes, Ends, Goes, Sends, Stage, start}
use Rattle.ov_owner.specs.declared.change.Change.{Change}
use Rattle.ov_owner.specs.declared.fault.OwnerFault.{OwnerFault}
use Rattle.ov_owner.specs.declared.fault.OwnerFault.TheVariants as faults
use Rattle.ov_owner.proofs.Alone.{asked_alone, leads_alone, left_alone, same_surface}
use Rattle.ov_owner.proofs.Doing.{Does, does}
use Rattle.ov_owner.proofs.FailingDisks.{update_fails}
use Rattle.ov_owner.proofs.Leaving.{Serves, leaves_one, nothing_due, one_ask}
use Rattle.ov_owner.proofs.Owning.{errand_for}
use Rattle.ov_owner.proofs.Proper.{talks_are_proper}
use Rattle.ov_owner.proofs.Replying.{talks_are_steps}
use Rattle.ov_owner.proofs.StepsAlike.{since_alike}
use Rattle.ov_owner.proofs.Telling.{under}

-- ---- the history after a command

module _ (k : Masters) (command : Command) (e : Errand) (d : Does k command e) (p : PlainHistory)
    (legal : IsLegal (history_of p)) where
  by_refusal : (o : Option Refusal) → refusal_of (history_of p) (measured (d.plain p)) ≡ o
      → IsLegal (history_of (update_step p (d.plain p) o).1)
  by_refusal None free =
      subst IsLegal (sym (history_of-push p (d.plain p)))
      (legal-push (history_of p) (measured (d.plain p)) legal free)
  by_refusal (Some why) refused = legal

  -- it is legal
  legal_after : IsLegal (history_of (after p command))
  legal_after =
      subst (λ (x : Reply × PlainHistory). IsLegal (history_of x.1)) (sym (d.as_update p))
      (by_refusal (refusal_of (history_of p) (measured (d.plain p))) refl)

  -- ---- the histories of the asks

  module _ (base_check : List ℕ) (s : SealedHistory) (right : IsSealedAs k p s) where
    abbrev now : SealedHistory → Service
    now g = under k.surface base_check g

    -- the asks were answered along histories each of which is this one
    abbrev AreHere : SealedHistory → List Ask → Service → Type 0
    AreHere g asks m =
        (histories : List SealedHistory) × Along (now g) asks histories m × AllAre s histories

    one_more : (a : Ask) (asks : List Ask) (g : SealedHistory) (made : List SealedUpdate)
        (m : Service) → g ≡ s → IsReplyAt (now g) a.request a.reply made
        → AreHere (followed g made) asks m → AreHere g (a ∷ asks) m
    one_more a asks g made m same replied (histories, along, are) =
        let nothing : later (now g) [] ≡ now g = later-nil (now g) in (
          (later (now g) []).history ∷ histories,
          (
            [],
            made,
            refl,
            subst (λ (w : Service). IsReplyAt w a.request a.reply made) (sym nothing) replied,
            subst (λ (w : Service). Along (later w made) asks histories m) (sym nothing) along,
          ),
          (ap (λ (w : Service). w.history) nothing ∙ same, are),
        )

    all_here : (stage final : Stage) (asks : List Ask) (g : SealedHistory) (m : Service)
        → Serves k command e d base_check p legal s right stage g
        → Goes k.surface e stage asks final
        → AnsweredAlone (now g) asks m → AreHere g asks m
    all_here stage final [] g m serves goes alone = ([], alone, tt)
    all_here (Ends r) final (a ∷ asks) g m serves (next, moves, goes) alone =
        absurd (nothing_due k command e d base_check p legal r a.request moves.asked)
    all_here (Asks tries least) final (a ∷ asks) g m same (next, moves, goes)
        (made, replied, alone) =
        one_more a asks g made m same replied
        (all_here next final asks (followed g made) m
        (one_ask k command e d base_check p legal s right (Asks tries least) next a g made moves
        same replied moves.then) goes alone)
    all_here (Sends tries epoch u) final (a ∷ asks) g m (same, ready) (next, moves, goes)
        (made, replied, alone) =
        one_more a asks g made m same replied
        (all_here next final asks (followed g made) m
        (one_ask k command e d base_check p legal s right (Sends tries epoch u) next a g made
        moves (same, ready) replied moves.then) goes alone)

  module _ (s : SealedHistory) (right : IsSealedAs k p s) where
    -- each of such histories is right
    all_right : (histories : List SealedHistory) → AllAre s histories → AreRight k histories
    all_right [] are = tt
    all_right (g ∷ more) (same, are) =
        ((p, legal, subst (IsSealedAs k p) (sym same) right), all_right more are)

    -- a step at the last of them is one of this history: it may be that of another one by which
    -- they are right too, and that is answered alike
    last_is : (reply : Reply) (histories : List SealedHistory) (last : SealedHistory)
        → AllAre s histories → IsLastStep k command reply histories last
        → (reply_to p command ≡ reply) × IsSealedSince k p (after p command) last
    last_is reply [] last same is = absurd is
    last_is reply (g ∷ []) last (same, none) is =
        let here : IsSealedAs k p g = subst (IsSealedAs k p) (sym same) right in
        let one : IsRight k is.before g = (is.legal, is.same) in
        let two : IsRight k p g = (legal, here) in (
          sym (right_histories_step_alike k is.before p g last command one two).0 ∙ is.replied,
          since_alike k command e d is.before p g one two last is.next,
        )
    last_is reply (g ∷ (h ∷ more)) last (same, others) is =
        last_is reply (h ∷ more) last others is

-- ---- calls

module _ {P : Type 0} (peer : PeerTells P) (alone : IsAlone peer) (k : Masters) (h : PlainHistory)
    (v : Service) (store : IsStoreUnder k h v) (p q : P) (serving : peer.serves p v)
    (Linked : Type 0) where
  abbrev Disk : Type 0
  Disk = FailsDisk peer p q

  abbrev Then : Service → Type 0
  Then w = peer.serves q w

  -- ---- an update

  module _ (command : Command) (e : Errand) (is : IsErrandFor k.base command e)
      (result : Result ℕ OwnerFault) (runs : Runs peer k.surface e p q result) where
    -- where the call has an answer, its last ask was answered
    answered_last : (m : P) (stage : Stage) (o : Option (List ℕ))
        → (result ≡ Err faults.Link → ⊥) → (result ≡ Err faults.Memory → ⊥)
        → Closes k.surface e stage o result → EndsAt peer m o q → m ≡ q
    answered_last m stage None linked given closes ends = ends
    answered_last m stage (Some frame) linked given (due, inl link) ends = absurd (linked link)
    answered_last m stage (Some frame) linked given (due, inr memory) ends = absurd (given memory)

    stepped : (reply : Reply)
        → (result ≡ Err faults.Link → ⊥) → (result ≡ Err faults.Memory → ⊥)
        → ((histories : List SealedHistory) (last : SealedHistory)
        → IsMachines k command histories last result → IsLastStep k command reply histories last)
        → StepsTo k command h Then reply
    stepped reply linked given machine =
        let d = does k command e is in
        let (m, leads, ends) = runs.are_asks in
        let (final, goes, closes) = runs.talks in
        let (last, at_it, then) = leads_alone peer alone runs.asks p m v leads serving in
        let (histories, along, are) =
        all_here k command e d h store.legal v.base_check v.history store.history start final
        runs.asks v.history last refl goes
        (subst (λ (s : List ℕ). AnsweredAlone (under s v.base_check v.history) runs.asks last)
        store.surface at_it) in
        let steps =
        talks_are_steps k command e runs.asks runs.unanswered result
        (under k.surface v.base_check v.history) last histories is runs.talks refl along
        (all_right k command e d h store.legal v.history store.history histories are) in
        let (replied, left) =
        last_is k command e d h store.legal v.history store.history reply histories last.history are
        (machine histories last.history steps) in (
          replied,
          (
            last,
            record {
              surface = same_surface runs.asks v last at_it ∙ store.surface;
              legal = legal_after k command e d h store.legal;
              history = left;
            },
            subst (λ x. peer.serves x last)
                (answered_last m final runs.unanswered linked given closes ends) then,
          ),
        )

    proper : IsProper result
    proper =
        let (m, leads, ends) = runs.are_asks in
        let (last, at_it) = asked_alone peer alone runs.asks runs.unanswered p m v leads serving in
        talks_are_proper k command e runs.asks runs.unanswered result v last h is runs.talks
        store.surface store.legal store.history at_it

  pub update_said : (command : Command) (e : Errand) → IsErrandFor k.base command e
      → (result : Result ℕ OwnerFault) → Runs peer k.surface e p q result
      → (result ≡ Err faults.Link → Linked)
      → IsSaidOrCut (SaysUpdate k command h v Then) Disk Linked result
  update_said command e is (Ok epoch) runs linked =
      stepped command e is (Ok epoch) runs (replies.Accepted epoch) (λ x. cc x) (λ x. cc x)
      (λ histories last x. x)
  update_said command e is (Err (faults.Refused why)) runs linked =
      stepped command e is (Err (faults.Refused why)) runs (replies.Refused why) (λ x. cc x)
      (λ x. cc x) (λ histories last x. x)
  update_said command e is (Err faults.Link) runs linked = linked refl
  update_said command e is (Err (faults.BadReply place)) runs linked =
      proper command e is (Err (faults.BadReply place)) runs
  update_said command e is (Err faults.BadTag) runs linked =
      proper command e is (Err faults.BadTag) runs
  update_said command e is (Err faults.Device) runs linked =
      update_fails peer alone k.surface command e k.base is p q v runs serving
  update_said command e is (Err (faults.Unsettled epochs)) runs linked =
      proper command e is (Err (faults.Unsettled epochs)) runs
  update_said command e is (Err faults.Memory) runs linked = tt

-- ---- the calls that make an update

module _ {P : Type 0} (peer : PeerTells P) (k : Masters) (change : Change) (p q : P)
    (result : Result ℕ OwnerFault)
    (runs : Runs peer k.surface (errand_of k.base change) p q result) where
  -- nothing is made by one, or its one update
  pub change_alone : MakesOneOrNone peer (errand_of k.base change) p q
  change_alone =
      λ v alone left serving.
      let (m, leads, ends) = runs.are_asks in
      let (last, at_it, then) =
      left_alone peer alone runs.asks runs.unanswered p m q v left leads ends serving in (
        last,
        leaves_one k (command_of change) (errand_of k.base change) runs.asks runs.unanswered result
            v last (errand_for k.base change) runs.talks at_it,
        then,
      )

  pub change_complete : (result ≡ Err faults.Link → Rose (peer.faults p) (peer.faults q))
      → IsCompleteCall peer k p q (SaysUpdate k (command_of change)) result
  change_complete linked =
      λ h v alone serving store.
      update_said peer alone k h v store p q serving (Rose (peer.faults p) (peer.faults q))
      (command_of change) (errand_of k.base change) (errand_for k.base change) result runs linked
