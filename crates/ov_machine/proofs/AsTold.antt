-- What a change by the owner is at a history for which the machine stands as far as its disk tells
-- the stored bytes: the machine's reply, and what is kept then.
use Rattle.std.proofs.Common.{◌≡◌, ◌∙◌, inl, inr, ℕ, ◌+◌, List, [], ◌∷◌, Result, Ok, Err, refl, sym, ap, subst}
use Rattle.std.specs.Prelude.{◌⊎◌, IfOk, IfSome, IsSome, Option, Some, None}
use Rattle.ov_base.specs.declared.refusal.Refusal.{Refusal}
use Rattle.ov_disk.specs.Tells.{DiskTells}
use Rattle.ov_script.specs.declared.command.Command.{Command}
use Rattle.ov_script.specs.declared.reply.Reply.{Reply}
use Rattle.ov_script.specs.declared.reply.Reply.TheVariants.{Accepted, Refused}
use Rattle.ov_history.specs.History.{epoch_of}
use Rattle.ov_history.specs.Kept.{AreKept}
use Rattle.ov_history.specs.Laws.{ShowsHistory}
use Rattle.ov_history.specs.Layers.{layers_of}
use Rattle.ov_history.specs.Masters.{Masters}
use Rattle.ov_history.specs.Plain.{PlainHistory, PlainUpdate, history_of, measured, with_plain}
use Rattle.ov_history.specs.Refusals.{IsLegal, refusal_of}
use Rattle.ov_history.specs.Sealed.{KeepsBytes, catalogue_of, stored_of}
use Rattle.ov_history.specs.Sealing.{sealed, sealed_update}
use Rattle.ov_history.specs.Sent.{numbered}
use Rattle.ov_history.proofs.Keeping.{kept_shows, kept_stands_for}
use Rattle.ov_model.specs.Step.{after, reply_to, step, update_step}
use Rattle.ov_model.proofs.Legality.{legal-after}
use Rattle.ov_tokens.specs.Keys.{check_value_of}
use Rattle.ov_wire.specs.declared.answer.Answer.{Answer}
use Rattle.ov_wire.specs.declared.request.Request.{Request}
use Rattle.ov_wire.specs.declared.request.Request.TheVariants as requests
use Rattle.ov_protocol.specs.Answers.{Answers}
use Rattle.ov_protocol.specs.Serving.{IsService, Service, Serving, followed, later, served as shown, told_as}
use Rattle.ov_protocol.proofs.GoingOn.{servers_go_on, services_are_served}
use Rattle.ov_peer.specs.Disks.{MayNeedDisk}
use Rattle.ov_store.specs.Opened.{Opened}
use Rattle.ov_server.specs.Answering.{serving_of}
use Rattle.ov_owner.specs.Errands.{Errand}
use Rattle.ov_owner.specs.Steps.{IsErrandFor}
use Rattle.ov_owner.specs.Talks.{IsAskFault}
use Rattle.ov_owner.specs.declared.fault.OwnerFault.{OwnerFault}
use Rattle.ov_owner.specs.declared.fault.OwnerFault.TheVariants as faults
use Rattle.ov_owner.proofs.Doing.{Does, does}
use Rattle.ov_owner.proofs.Telling.{names_after, under}
use Rattle.ov_machine.specs.Machine.{Kept, KeptOn, StandsAsTold, StandsFor, opened_of}
use Rattle.ov_machine.specs.Replying.{change_reply}
use Rattle.ov_machine.specs.Seats.{Stays}
use Rattle.ov_machine.specs.Steps.{AnswersAsTold}
use Rattle.ov_machine.proofs.Changed.{Changes, IsFailed, IsMade, IsSentTo, cut, refused, sent}
use Rattle.ov_machine.proofs.Errands.{IsHonest}
use Rattle.ov_machine.proofs.Following.{spelling_goes_on}
use Rattle.ov_machine.proofs.Stays.{and_told, if_told, shows_same}

-- ---- what is kept

-- what stands for a history stands for it as far as its disk tells
pub as_far_as_told : (kept : Kept) (p : PlainHistory) → StandsFor kept p → StandsAsTold kept p
as_far_as_told kept p stands = (
  stands.0,
  if_told kept.stored (AreKept kept.masters p) (AreKept kept.masters p) stands.1 (λ bytes are. are),
)

-- and the other way round where the disk tells its bytes
pub all_told : (kept : Kept) (p : PlainHistory) → StandsAsTold kept p → IsSome kept.stored
    → StandsFor kept p
all_told kept p stands told = (
  stands.0,
  and_told kept.stored (AreKept kept.masters p) (AreKept kept.masters p) told stands.1
      (λ bytes are. are),
)

-- what is kept shows the history
pub shows_as_told : (old : Kept) (p : PlainHistory) → StandsAsTold old p
    → ShowsHistory (history_of p) old.catalogue
shows_as_told old p stands = kept_shows old.masters p old.catalogue stands.0

-- the history as it is served
abbrev pub service_at : Masters → PlainHistory → Service
service_at k p = under k.surface (check_value_of k.base) (sealed k p)

if_said : {A : Type 0} (o : Option A) (P Q : A → Type 0) → IfSome o P → ((a : A) → P a → Q a)
    → IfSome o Q
if_said None P Q has then = tt
if_said (Some a) P Q has then = then a has

-- a machine that stands for the history as far as its disk tells serves it
pub serves_as_told : {D : Type 0} (m : KeptOn D) (p : PlainHistory) → StandsAsTold m.kept p
    → IsService (serving_of (opened_of m)) (service_at m.kept.masters p)
serves_as_told m p stands = record {
  stands = kept_stands_for m.kept.masters p m.kept.catalogue stands.0;
  keeps = if_said m.kept.stored (AreKept m.kept.masters p) (λ bytes. KeepsBytes
      m.kept.masters.surface bytes (sealed m.kept.masters p)) stands.1 (λ bytes are. are);
  surface = refl;
  base_check = refl;
}

-- a machine that serves the sealed form of a legal history stands for it as far as its disk tells
pub stands_as_told : {D : Type 0} (m : KeptOn D) (p : PlainHistory) (v : Service)
    → IsLegal (history_of p) → v.surface ≡ m.kept.masters.surface → v.history ≡ sealed m.kept.masters p
    → IsService (serving_of (opened_of m)) v → StandsAsTold m.kept p
stands_as_told m p v legal surface is serves = (
  (legal, serves.stands.1 ∙ (λ i. catalogue_of (surface i) (is i))),
  if_said m.kept.stored (λ bytes. KeepsBytes v.surface bytes v.history) (AreKept m.kept.masters p)
      serves.keeps (λ bytes are. are ∙ (λ i. stored_of (surface i) (is i))),
)

-- a request that needs no disk is answered the same whether the stored bytes are told or not
unhidden : (stored : Option (List (List ℕ))) (s : Serving) (request : Request) (a : Answer)
    → (MayNeedDisk request → ⊥) → Answers (told_as stored s) request a → Answers s request a
unhidden (Some bytes) s request a quiet is = is
unhidden None s (requests.Chunk file generation start count) a quiet is = absurd (quiet tt)
unhidden None s request a quiet is = is

-- ---- a change

module _ {D : Type 0} (tells : DiskTells D) (old new : KeptOn D) (p : PlainHistory)
    (stands : StandsAsTold old.kept p) (masters : new.kept.masters ≡ old.kept.masters)
    (command : Command) (e : Errand) (ours : IsErrandFor old.kept.masters.base command e)
    (is_honest : IsHonest e) where
  abbrev k : Masters
  k = old.kept.masters

  abbrev s : Opened D
  s = opened_of old

  abbrev t : Opened D
  t = opened_of new

  abbrev legal : IsLegal (history_of p)
  legal = stands.0.0

  does_it : Does k command e
  does_it = does k command e ours

  abbrev plain : PlainUpdate
  plain = does_it.plain p

  -- what the store answers is answered at the history
  at_history : (a : Answer) → Answers (serving_of s) e.first a
      → Answers (shown (service_at k p)) e.first a
  at_history a is =
      unhidden s.stored (shown (service_at k p)) e.first a is_honest.quiet
      (subst (λ (x : Serving). Answers x e.first a)
      (services_are_served (serving_of s) (service_at k p) (serves_as_told old p stands)) is)

  pub refused_so : (a : Answer) (why : Refusal) → Answers (serving_of s) e.first a
      → e.sealed a ≡ Err (faults.Refused why)
      → step p command ≡ (Refused why, p)
  refused_so a why answered is =
      does_it.as_update p
      ∙ ap (update_step p plain)
      (does_it.makes.refused (check_value_of k.base) p a why legal (at_history a answered) is).1

  -- what is kept stands for the history still
  still_stands : Stays tells s t → StandsAsTold new.kept p
  still_stands still =
      stands_as_told new p (service_at k p) legal (ap (λ (x : Masters). x.surface) (sym masters))
      (ap (λ (x : Masters). sealed x p) (sym masters))
      (subst (λ (x : Serving). IsService x (service_at k p)) (sym (shows_same tells s t still))
      (serves_as_told old p stands))

  module _ (result : Result ℕ OwnerFault)
      (x : IsSentTo tells k.surface e is_honest s t result) where
    -- the store to which the update is sent serves the history
    serves_there : IsService (serving_of x.mid) (service_at k p)
    serves_there =
        subst (λ (y : Serving). IsService y (service_at k p)) (sym (shows_same tells s x.mid x.stays))
        (serves_as_told old p stands)

    told_so : (x.epoch ≡ (catalogue_of k.surface (sealed k p)).epoch)
        × (numbered (names_after p) x.update
        ≡ sealed_update k (layers_of (history_of p)) plain)
        × (refusal_of (history_of p) (measured plain) ≡ None)
    told_so =
        does_it.makes.told (check_value_of k.base) p x.told x.epoch x.update legal
        (at_history x.told x.answers) x.sealed

    step_is : step p command ≡ (Accepted (epoch_of (history_of p) + 1), with_plain p plain)
    step_is = does_it.as_update p ∙ ap (update_step p plain) told_so.2

    pub sealed_is : followed (sealed k p) (x.update ∷ []) ≡ sealed k (after p command)
    sealed_is =
        spelling_goes_on k p plain x.update told_so.1
        ∙ ap (λ (r : Reply × PlainHistory). sealed k r.1) (sym step_is)

    pub reply_is : Accepted (x.epoch + 1) ≡ reply_to p command
    reply_is =
        ap (λ n. Accepted (n + 1))
        (told_so.0 ∙ (kept_shows k p (catalogue_of k.surface (sealed k p)) (legal, refl)).epoch)
        ∙ ap (λ (r : Reply × PlainHistory). r.0) (sym step_is)

    -- what is served then is the history after the command
    module _ (made : IsMade tells k.surface e is_honest x.mid t x.epoch x.update x.reply result) where
      pub after_it : (later (service_at k p) made.answered.frame.made).history ≡ sealed k (after p command)
      after_it = ap (followed (sealed k p)) made.makes ∙ sealed_is

      pub stands_then : StandsAsTold new.kept (after p command)
      stands_then =
          stands_as_told new (after p command) (later (service_at k p) made.answered.frame.made)
          (legal-after p command legal).0
          (ap (λ (y : Masters). y.surface) (sym masters))
          (after_it ∙ ap (λ (y : Masters). sealed y (after p command)) (sym masters))
          (servers_go_on (serving_of x.mid) (serving_of t) (service_at k p) _ x.reply
          made.answered.frame serves_there)

  -- the reply to what the owner got, and what is kept then
  abbrev Answered : Result ℕ OwnerFault → Type 0
  Answered result = IfOk (change_reply result) (AnswersAsTold p command new.kept)

  cut_so : (result : Result ℕ OwnerFault) → IsAskFault result → Answered result
  cut_so result (inl is) = subst Answered (sym is) tt
  cut_so result (inr is) = subst Answered (sym is) tt

  pub changes_as_told : (result : Result ℕ OwnerFault)
      → Changes tells k.surface e is_honest s t result → Answered result
  changes_as_told result (refused a why still answered is so) =
      let at_step = refused_so a why answered is in
      subst Answered (sym so) (
        (λ other. ap (λ (r : Reply × PlainHistory). r.0) (sym at_step)),
        subst (StandsAsTold new.kept) (ap (λ (r : Reply × PlainHistory). r.1) (sym at_step))
            (still_stands still),
      )
  changes_as_told result (cut still why) = cut_so result why
  changes_as_told result (sent x) = by x.comes where
    by_made : (made : IsMade tells k.surface e is_honest x.mid t x.epoch x.update x.reply result)
        → (result ≡ Ok (x.epoch + 1)) ⊎ IsAskFault result → Answered result
    by_made made (inl is) =
        subst Answered (sym is) ((λ other. reply_is result x), stands_then result x made)
    by_made made (inr why) = cut_so result why

    by_failed : (result ≡ Err faults.Device) ⊎ IsAskFault result → Answered result
    by_failed (inl is) = subst Answered (sym is) tt
    by_failed (inr why) = cut_so result why

    by : IsMade tells k.surface e is_honest x.mid t x.epoch x.update x.reply result
        ⊎ IsFailed tells k.surface e is_honest x.mid t x.epoch x.update x.reply result
        → Answered result
    by (inl made) = by_made made made.ends
    by (inr failed) = by_failed failed.ends
