-- What a change by the owner is at a history for which the machine stands: the machine's step.
use Rattle.std.proofs.Common.{◌≡◌, ◌∙◌, inl, inr, ℕ, ◌+◌, [], ◌∷◌, length, length-append, false, sym, ap, subst, arith, true≢false, Result, Ok, Err}
use Rattle.std.specs.Prelude.{◌⊎◌, IfSome, IsSome, List, is_some}
use Rattle.ov_disk.specs.Disk.{Image}
use Rattle.ov_disk.proofs.Runs.{weaker}
use Rattle.ov_disk.specs.Tells.{DiskTells}
use Rattle.ov_images.specs.Images.{Keeps, keys_of}
use Rattle.ov_record.specs.Updates.{SealedUpdate}
use Rattle.ov_script.specs.declared.command.Command.{Command}
use Rattle.ov_script.specs.declared.reply.Reply.{Reply}
use Rattle.ov_script.specs.declared.reply.Reply.TheVariants.{Refused}
use Rattle.ov_history.specs.History.{epoch_of}
use Rattle.ov_history.specs.Laws.{ShowsHistory}
use Rattle.ov_history.specs.Masters.{Masters}
use Rattle.ov_history.specs.Plain.{PlainHistory, PlainUpdate, history_of, measured_all, with_plain}
use Rattle.ov_history.specs.Refusals.{IsLegal}
use Rattle.ov_history.specs.Fading.{faded_from, faded_of}
use Rattle.ov_history.specs.Kept.{AreKept}
use Rattle.ov_history.specs.Sealed.{KeepsBytes, SealedHistory, StandsFor as SealedFor}
use Rattle.ov_history.specs.Sealing.{IsSealedAs, IsSealedSince, sealed}
use Rattle.ov_history.proofs.PlainLaws.{measured_all-append}
use Rattle.ov_model.specs.Step.{after}
use Rattle.ov_history.proofs.Agreeing.{right_is_sealed, right_keeps, right_shows}
use Rattle.ov_model.proofs.Legality.{legal-after}
use Rattle.ov_wire.specs.Requests.{request_bytes}
use Rattle.ov_wire.specs.RequestReading.{request_of}
use Rattle.ov_protocol.specs.Replies.{updates_asked}
use Rattle.ov_protocol.specs.Serving.{Service, Serving, followed, stored_followed}
use Rattle.ov_protocol.specs.Updating.{spelled_by}
use Rattle.ov_protocol.proofs.Untold.{told_still}
use Rattle.ov_protocol.proofs.Reading.{request_back}
use Rattle.ov_store.specs.Opened.{Opened, Serves}
use Rattle.ov_server.specs.Answering.{KeepsWith, serving_of}
use Rattle.ov_server.specs.Locally.{IsServedBy}
use Rattle.ov_owner.specs.Errands.{Errand}
use Rattle.ov_owner.specs.Steps.{IsErrandFor}
use Rattle.ov_owner.specs.Talks.{IsAskFault, update_request}
use Rattle.ov_owner.specs.declared.fault.OwnerFault.{OwnerFault}
use Rattle.ov_owner.specs.declared.fault.OwnerFault.TheVariants as faults
use Rattle.ov_owner.proofs.Stepping.{read_back}
use Rattle.ov_machine.specs.Disks.{HasMade, Holds, KeepsPlain, KeepsStep}
use Rattle.ov_machine.specs.Machine.{Kept, KeptOn, MayLeave, StandsAsTold, StandsFor, StepsAt, opened_of}
use Rattle.ov_machine.specs.Seats.{Stays}
use Rattle.ov_machine.specs.Replying.{change_reply}
use Rattle.ov_machine.specs.declared.fault.StepFault.{StepFault}
use Rattle.ov_machine.specs.declared.fault.StepFault.TheVariants.{Disk, Memory, Tag, Trace}
use Rattle.ov_machine.proofs.AsTold.{all_told, as_far_as_told, refused_so, reply_is, sealed_is, serves_as_told, service_at, shows_as_told, stands_as_told, stands_then}
use Rattle.ov_machine.proofs.Changed.{Changes, IsFailed, IsMade, IsSentTo, cut, refused, sent}
use Rattle.ov_machine.proofs.Errands.{IsHonest}
use Rattle.ov_machine.proofs.Following.{right_follows, since_follows}
use Rattle.ov_machine.proofs.Making.{ComesTo}
use Rattle.ov_machine.proofs.Stays.{are_told, fails_same, holds_each, holds_still, if_told}
use Rattle.ov_machine.proofs.Stays.{quiet_then, serves_still, shows_same}
use Rattle.ov_machine.proofs.Staying.{same_kept}
use Rattle.ov_machine.proofs.Updating.{now_so, stays, stays_left}

-- what is kept shows the history
pub shows : (old : Kept) (p : PlainHistory) → StandsFor old p → ShowsHistory (history_of p) old.catalogue
shows old p stands = shows_as_told old p (as_far_as_told old p stands)

-- the machine with these masters over an open store
abbrev pub machine_of : {D : Type 0} → Masters → Opened D → KeptOn D
machine_of k s = record {
  kept = record { masters = k; catalogue = s.catalogue; stored = s.stored };
  disk = s.disk;
  failed = s.failed;
}

-- a machine that stands for the history serves it, and tells its bytes
pub serves_at : {D : Type 0} (m : KeptOn D) (p : PlainHistory) → StandsFor m.kept p
    → IsServedBy (opened_of m) (service_at m.kept.masters p)
serves_at m p stands = (
  serves_as_told m p (as_far_as_told m.kept p stands),
  are_told m.kept.stored (AreKept m.kept.masters p) stands.1,
)

-- a machine that serves the sealed form of a legal history stands for it
pub stands_at : {D : Type 0} (m : KeptOn D) (p : PlainHistory) (v : Service)
    → IsLegal (history_of p) → v.surface ≡ m.kept.masters.surface → v.history ≡ sealed m.kept.masters p
    → IsServedBy (opened_of m) v → StandsFor m.kept p
stands_at m p v legal surface is (serves, told) =
    all_told m.kept p (stands_as_told m p v legal surface is serves) told

module _ {D : Type 0} (tells : DiskTells D) (old new : KeptOn D) (p : PlainHistory)
    (stands : StandsFor old.kept p) (masters : new.kept.masters ≡ old.kept.masters)
    (sound : old.failed ≡ false) (command : Command) (e : Errand)
    (ours : IsErrandFor old.kept.masters.base command e) (is_honest : IsHonest e) where
  abbrev k : Masters
  k = old.kept.masters

  abbrev s : Opened D
  s = opened_of old

  abbrev t : Opened D
  t = opened_of new

  abbrev legal : IsLegal (history_of p)
  legal = stands.0.0

  -- what is kept stands for the history as far as the disk tells
  abbrev as_told : StandsAsTold old.kept p
  as_told = as_far_as_told old.kept p stands

  -- what is kept is also that of a store after the history that the disk holds
  kept_shown : (start : PlainHistory) (holds : Holds tells k start p old.disk)
      → SealedFor k.surface old.kept.catalogue holds.kept
  kept_shown start holds = (
    right_is_sealed k p holds.kept legal holds.right,
    stands.0.1 ∙ sym (right_shows k p holds.kept legal holds.right),
  )

  kept_stored : (start : PlainHistory) (holds : Holds tells k start p old.disk)
      → IfSome old.kept.stored (λ bytes. KeepsBytes k.surface bytes holds.kept)
  kept_stored start holds =
      if_told old.kept.stored (AreKept k p) (λ bytes. KeepsBytes k.surface bytes holds.kept) stands.1
      (λ bytes are. are ∙ sym (right_keeps k p holds.kept legal holds.right))

  -- ---- an update

  module _ (result : Result ℕ OwnerFault)
      (x : IsSentTo tells k.surface e is_honest s t result) where
    abbrev mid : Opened D
    mid = x.mid

    sound_there : mid.failed ≡ false
    sound_there = fails_same tells s mid x.stays ∙ sound

    -- the store to which the update is sent serves the history
    serves_there : IsServedBy mid (service_at k p)
    serves_there = serves_still tells s mid x.stays (service_at k p) (serves_at old p stands)

    holds_there : (start : PlainHistory) → Holds tells k start p old.disk
        → Holds tells k start p mid.disk
    holds_there start = holds_still tells old.disk mid.disk x.stays.writes.disk k start p

    -- it stands for the history that the disk holds
    stands_there : (start : PlainHistory) (holds : Holds tells k start p old.disk)
        → Serves tells holds.kept mid
    stands_there start holds = record {
      catalogue = subst (λ (y : Opened D). SealedFor y.keys.surface y.catalogue holds.kept)
          (sym x.stays.writes.same) (kept_shown start holds);
      bytes = subst (λ (y : Opened D). IfSome y.stored (λ bytes. KeepsBytes y.keys.surface bytes
          holds.kept)) (sym x.stays.writes.same) (kept_stored start holds);
      told = serves_there.1 ∙ sym (ap is_some (holds_there start holds).told.1);
      disk = λ _ i read c left. subst (λ (y : Opened D). Keeps y.keys holds.kept c)
          (sym x.stays.writes.same) (holds.each c (x.stays.writes.disk.no_more c left));
      after_fault = λ failed. absurd (true≢false (sym failed ∙ sound_there));
    }

    after_is : followed (sealed k p) (x.update ∷ []) ≡ sealed k (after p command)
    after_is = sealed_is tells old new p as_told masters command e ours is_honest result x

    -- what the disk holds, with the update, is right for the history after the command
    right_then : (start : PlainHistory) (holds : Holds tells k start p old.disk)
        → IsSealedAs k (after p command) (followed holds.kept (x.update ∷ []))
    right_then start holds =
        right_follows k p holds.kept x.update holds.right
        ∙ ap (λ (g : SealedHistory). faded_of g) after_is

    -- and it is its sealed form but for the files that were gone at the start
    since_then : (start : PlainHistory) (holds : Holds tells k start p old.disk)
        → IsSealedSince k start (after p command) (followed holds.kept (x.update ∷ []))
    since_then start holds =
        since_follows k p start holds.kept x.update holds.right holds.since
        ∙ ap (λ (g : SealedHistory). faded_from (history_of start) g) after_is

    -- what the request asks for is the update
    asks_it : updates_asked (request_of (request_bytes (update_request k.surface x.epoch x.update))) ≡ x.update ∷ []
    asks_it =
        ap updates_asked (request_back (update_request k.surface x.epoch x.update) x.form.1)
        ∙ ap spelled_by (read_back x.update x.form.0)

    either : (start : PlainHistory) (holds : Holds tells k start p old.disk) (c : Image)
        → KeepsWith (keys_of k) holds.kept (updates_asked (request_of (request_bytes (update_request k.surface x.epoch x.update)))) c
        → KeepsStep k start p command c
    either start holds c (inl keeps) = inl (holds.kept, holds.since, keeps)
    either start holds c (inr keeps) =
        inr (
          followed holds.kept (x.update ∷ []),
          since_then start holds,
          subst (λ (us : List SealedUpdate). Keeps (keys_of k) (followed holds.kept us) c) asks_it keeps,
        )

    either_there : (start : PlainHistory) (holds : Holds tells k start p old.disk) (c : Image)
        → KeepsWith mid.keys holds.kept (updates_asked (request_of (request_bytes (update_request k.surface x.epoch x.update)))) c
        → KeepsStep k start p command c
    either_there start holds c keeps =
        either start holds c (subst (λ (y : Opened D). KeepsWith y.keys holds.kept
        (updates_asked (request_of (request_bytes (update_request k.surface x.epoch x.update)))) c)
        x.stays.writes.same keeps)

    leaves_so : MayLeave tells k p command old.disk new.disk
    leaves_so = λ start holds.
        let moments = weaker tells mid.disk new.disk
        (KeepsWith mid.keys holds.kept (updates_asked (request_of (request_bytes (update_request k.surface x.epoch x.update)))))
        (KeepsStep k start p command)
        (x.asks.any_moment holds.kept (stands_there start holds) sound_there
        (holds_there start holds).told.0 (holds_there start holds).told.1)
        (either_there start holds) in
        let all = quiet_then tells old.disk mid.disk x.stays.writes.disk new.disk
        (KeepsStep k start p command)
        (λ c left. inl (holds_each tells k start p old.disk holds c left))
        moments in record {
          moments = all;
          now = now_so tells old.disk new.disk (KeepsStep k start p command) all;
        }

    -- what is kept then is the history after the command
    module _ (made : IsMade tells k.surface e is_honest mid t x.epoch x.update x.reply result) where
      -- the store still tells its bytes
      tells_on : IsSome t.stored
      tells_on =
          ap (λ (y : Serving). is_some y.stored) made.answered.frame.next
          ∙ told_still (λ bytes. stored_followed mid.keys.surface mid.catalogue bytes
          made.answered.frame.made) mid.stored serves_there.1

      stands_so : StandsFor new.kept (after p command)
      stands_so =
          all_told new.kept (after p command)
          (stands_then tells old new p as_told masters command e ours is_honest result x made) tells_on

      holds_so : (start : PlainHistory) → Holds tells k start p old.disk
          → Holds tells k start (after p command) new.disk
      holds_so start holds =
          let there = holds_there start holds in
          let image = made.answered.told there.told.0 there.told.1 in
          let more = made.answered.lasts holds.kept (stands_there start holds) in
          let still : t.failed ≡ false = made.answered.failed ∙ sound_there in record {
            told = image;
            kept = followed holds.kept (x.update ∷ []);
            right = right_then start holds;
            since = since_then start holds;
            each = λ c left.
                subst (λ (us : List SealedUpdate). Keeps (keys_of k) (followed holds.kept us) c)
                made.makes
                (subst (λ (y : Masters). Keeps (keys_of y) (followed holds.kept made.answered.frame.made) c)
                masters (more.disk still image.0 image.1 c left));
          }

      made_so : (result ≡ Ok (x.epoch + 1)) ⊎ IsAskFault result
          → StepsAt tells k p command old new (change_reply result)
      made_so (inl is) =
          subst (λ (r : Result ℕ OwnerFault). StepsAt tells k p command old new (change_reply r)) (sym is)
          (reply_is tells old new p as_told masters command e ours is_honest result x, record { stands = stands_so; leaves = leaves_so; holds = holds_so })
      made_so (inr (inl is)) =
          subst (λ (r : Result ℕ OwnerFault). StepsAt tells k p command old new (change_reply r)) (sym is) leaves_so
      made_so (inr (inr is)) =
          subst (λ (r : Result ℕ OwnerFault). StepsAt tells k p command old new (change_reply r)) (sym is) leaves_so

    failed_so : (result ≡ Err faults.Device) ⊎ IsAskFault result
        → StepsAt tells k p command old new (change_reply result)
    failed_so (inl is) =
        subst (λ (r : Result ℕ OwnerFault). StepsAt tells k p command old new (change_reply r)) (sym is) leaves_so
    failed_so (inr (inl is)) =
        subst (λ (r : Result ℕ OwnerFault). StepsAt tells k p command old new (change_reply r)) (sym is) leaves_so
    failed_so (inr (inr is)) =
        subst (λ (r : Result ℕ OwnerFault). StepsAt tells k p command old new (change_reply r)) (sym is) leaves_so

  -- ---- any of them

  -- nothing changed but the disk
  stands_still : Stays tells s t → StandsFor new.kept p
  stands_still still =
      subst (λ (kept : Kept). StandsFor kept p) (sym (same_kept tells old new masters still)) stands

  cut_so : (result : Result ℕ OwnerFault) → Stays tells s t → IsAskFault result
      → StepsAt tells k p command old new (change_reply result)
  cut_so result still (inl is) =
      subst (λ (r : Result ℕ OwnerFault). StepsAt tells k p command old new (change_reply r)) (sym is)
      (stays_left tells old new still.writes.disk k p command)
  cut_so result still (inr is) =
      subst (λ (r : Result ℕ OwnerFault). StepsAt tells k p command old new (change_reply r)) (sym is)
      (stays_left tells old new still.writes.disk k p command)

  pub changes_step : (result : Result ℕ OwnerFault)
      → Changes tells k.surface e is_honest s t result
      → StepsAt tells k p command old new (change_reply result)
  changes_step result (refused a why still answered is so) =
      let at_step = refused_so tells old new p as_told masters command e ours is_honest a why answered is in
      subst (λ (r : Result ℕ OwnerFault). StepsAt tells k p command old new (change_reply r)) (sym so)
      (stays tells old new still.writes.disk k p command (Refused why) (stands_still still)
      (ap (λ (r : Reply × PlainHistory). r.0) (sym at_step)) (ap (λ (r : Reply × PlainHistory). r.1) at_step))
  changes_step result (cut still why) = cut_so result still why
  changes_step result (sent x) = by x.comes where
    by : IsMade tells k.surface e is_honest x.mid t x.epoch x.update x.reply result
        ⊎ IsFailed tells k.surface e is_honest x.mid t x.epoch x.update x.reply result
        → StepsAt tells k p command old new (change_reply result)
    by (inl made) = made_so result x made made.ends
    by (inr failed) = failed_so result x failed.ends

  -- ---- where the whole transcript was put

  -- where the command leaves the history the disk has it made
  same_made : (r : Result Reply StepFault) → StepsAt tells k p command old new r
      → after p command ≡ p → HasMade tells k p command old.disk new.disk
  same_made r steps same = λ start holds c left. by r steps start holds c left where
    either_way : (start : PlainHistory) (c : Image) → KeepsStep k start p command c
        → KeepsPlain k start (after p command) c
    either_way start c (inl keeps) = subst (λ q. KeepsPlain k start q c) (sym same) keeps
    either_way start c (inr keeps) = keeps

    by : (x : Result Reply StepFault) → StepsAt tells k p command old new x
        → HasMade tells k p command old.disk new.disk
    by (Ok reply) goes = λ start holds c left.
        holds_each tells k start (after p command) new.disk (goes.1.holds start holds) c left
    by (Err Disk) leaves = λ start holds c left.
        either_way start c ((leaves start holds).now c left)
    by (Err Trace) leaves = λ start holds c left.
        either_way start c ((leaves start holds).now c left)
    by (Err Memory) leaves = λ start holds c left.
        either_way start c ((leaves start holds).now c left)
    by (Err (Tag bad)) never = absurd never

  -- a store that shows what it showed doesn't serve the history with the update
  still_unmade : (last : Service) (u : PlainUpdate) → IsServedBy t last
      → after p command ≡ with_plain p u → last.history ≡ sealed k (after p command)
      → serving_of t ≡ serving_of s → ⊥
  still_unmade last u serves is then same =
      let there : StandsFor new.kept (after p command) =
      stands_at new (after p command) last (legal-after p command legal).0 (sym serves.0.surface)
      (then ∙ ap (λ (x : Masters). sealed x (after p command)) (sym masters)) serves in
      let now = (shows new.kept (after p command) there).epoch in
      let before = (shows old.kept p stands).epoch in
      let still : new.kept.catalogue.epoch ≡ old.kept.catalogue.epoch =
      ap (λ (x : Serving). x.catalogue.epoch) same in
      let more : epoch_of (history_of (after p command)) ≡ epoch_of (history_of (with_plain p u)) =
      ap (λ (q : PlainHistory). epoch_of (history_of q)) is in
      let one = ap length (measured_all-append p.updates (u ∷ [])) in
      let two = length-append (measured_all p.updates) (measured_all (u ∷ [])) in
      omega (arith, now, before, still, more, one, two)

  -- the whole transcript was put, and so the command is made
  pub has_made : (result : Result ℕ OwnerFault)
      → Changes tells k.surface e is_honest s t result
      → (last : Service) → IsServedBy t last → ComesTo k p command last
      → HasMade tells k p command old.disk new.disk
  has_made result changes last serves (inl same) =
      same_made (change_reply result) (changes_step result changes) same
  has_made result changes last serves (inr (u, is, then)) = by changes where
    unmade : serving_of t ≡ serving_of s → ⊥
    unmade same = still_unmade last u serves is then same

    by : Changes tells k.surface e is_honest s t result
        → HasMade tells k p command old.disk new.disk
    by (refused a why still answered told so) = absurd (unmade (shows_same tells s t still))
    by (cut still why) = absurd (unmade (shows_same tells s t still))
    by (sent x) = by_reply x.comes where
      by_reply : IsMade tells k.surface e is_honest x.mid t x.epoch x.update x.reply result
          ⊎ IsFailed tells k.surface e is_honest x.mid t x.epoch x.update x.reply result
          → HasMade tells k p command old.disk new.disk
      by_reply (inl made) = λ start holds c left.
          holds_each tells k start (after p command) new.disk
          (holds_so result x made start holds) c left
      by_reply (inr failed) =
          absurd (unmade (failed.faulted.same ∙ shows_same tells s x.mid x.stays))
