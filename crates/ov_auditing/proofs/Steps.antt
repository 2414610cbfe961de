-- One update of a store, as its record spells it, is followed.
use Rattle.std.proofs.Common.{ℕ, ◌+◌, ◌∙◌, ◌≡◌, ◌≤◌, List, ap, arith, length, subst, sym, take}
use Rattle.std.proofs.lemmas.List.{take_all}
use Rattle.std.specs.Prelude.{None, Ok, Some}
use Rattle.ov_audit.specs.Seen.{IsNext, Seen, SeesNext}
use Rattle.ov_auditing.proofs.Followed.{followed_next, may_look}
use Rattle.ov_auditing.proofs.Texts.{some_update}
use Rattle.ov_auditing.specs.Following.{FollowsEach, FollowsFirst, FollowsNext, FollowsOne, HasFollowed}
use Rattle.ov_disk.specs.Tells.{DiskTells}
use Rattle.ov_exposure.specs.Auditing.{AreMembers}
use Rattle.ov_history.specs.Briefs.{Brief, brief, numbered_brief}
use Rattle.ov_history.specs.Catalogue.{Catalogue, catalogue_after, file_names_shown}
use Rattle.ov_history.specs.Sealed.{IsSealed, SealedHistory, with_sealed}
use Rattle.ov_history.specs.Sent.{SealedUpdate}
use Rattle.ov_machine.specs.Disks.{TellsNothing}
use Rattle.ov_record.specs.Briefs.{Brief as SpelledBrief, plain_brief}
use Rattle.ov_record.specs.declared.brief.Brief.{Brief as Written}
use Rattle.ov_replaying.proofs.Updates.{taken_at, update_named, update_taken}
use Rattle.ov_replaying.specs.Reading.{StaysAsItWas}
use Rattle.ov_state.specs.Plans.{IsTaken}
use Rattle.ov_state.specs.declared.state.TheConstants.{WIDTH}
use Rattle.ov_store.specs.Briefs.{IsUpdateAt, ReadsUpdate}
use Rattle.ov_store.specs.Opened.{Opened, Serves}
use Rattle.ov_store.specs.Owners.{with_first}

-- ---- an update of a history that the store stands for

module _ (master : List ℕ) (g : SealedHistory) (fit : IsSealed g) (n : ℕ) (b : SpelledBrief)
    (it : IsUpdateAt g n b) (c : Catalogue) (seen : Seen)
    (followed : HasFollowed master (with_first g (take n g.updates)) c seen) where
  abbrev before : SealedHistory
  before = with_first g (take n g.updates)

  pub followed_at : (next : Catalogue) (later : Seen)
      → next ≡ catalogue_after master c (numbered_brief (file_names_shown c) b)
      → SeesNext seen next later
      → HasFollowed master (with_first g (take (n + 1) g.updates)) next later
  followed_at next later made sees =
      subst (λ (us : List SealedUpdate). HasFollowed master (with_first g us) next later)
      (sym it.more)
      (followed_next master before it.update c next seen followed
      (update_taken master g fit n b it c followed.stands)
      (made ∙ ap (λ (u : Brief). catalogue_after master c u)
      (update_named master g fit n b it c followed.stands)) later sees)

-- ---- any update that is taken

module _ (master : List ℕ) (g : SealedHistory) (b : Brief) (c next : Catalogue) (seen : Seen)
    (followed : HasFollowed master g c seen) (taken : IsTaken c b)
    (made : next ≡ catalogue_after master c b) where
  abbrev u : SealedUpdate
  u = (some_update b).0

  is_u : IsTaken c (brief u)
  is_u = subst (λ (x : Brief). IsTaken c x) (sym (some_update b).1) taken

  made_u : next ≡ catalogue_after master c (brief u)
  made_u = made ∙ ap (λ (x : Brief). catalogue_after master c x) (sym (some_update b).1)

  pub may_look_at : (users : List ℕ) → AreMembers users seen.users → IsNext seen next
  may_look_at users are = may_look master g u c next seen followed is_u made_u users are

  pub some_followed : (later : Seen) → SeesNext seen next later
      → (h : SealedHistory) × HasFollowed master h next later
  some_followed later sees =
      (with_sealed g u, followed_next master g u c next seen followed is_u made_u later sees)

-- ---- an open store

module _ {D : Type 0} (tells : DiskTells D) (s : Opened D) (n : ℕ) (c : Catalogue) (seen : Seen) where
  -- where there is an update more
  pub next_followed : (b : Written WIDTH)
      → ReadsUpdate tells s n (Ok (Some b))
      → (next : Catalogue) (later : Seen)
      → next
      ≡ catalogue_after s.keys.surface c (numbered_brief (file_names_shown c) (plain_brief b))
      → SeesNext seen next later
      → FollowsNext tells s n c seen next later
  next_followed b reads next later made sees g serves i read followed =
      followed_at s.keys.surface g serves.catalogue.0 n (plain_brief b) (reads g serves i read) c seen
      followed next later made sees

  -- and where there is none
  pub none_followed : ReadsUpdate tells s n (Ok None) → FollowsNext tells s n c seen c seen
  none_followed reads g serves i read followed =
      let few : length g.updates ≤ n = reads g serves i read in
      subst (λ (us : List SealedUpdate). HasFollowed s.keys.surface (with_first g us) c seen)
      (take_all n g.updates few ∙ sym (take_all (n + 1) g.updates (omega (arith, few)))) followed

  -- an update that a disk tells is taken
  pub told_taken : (b : Written WIDTH) → ReadsUpdate tells s n (Ok (Some b))
      → FollowsOne tells s n c seen
      → (IsTaken c (numbered_brief (file_names_shown c) (plain_brief b)) → ⊥)
      → TellsNothing (tells.reads s.disk)
  told_taken b reads one untaken i read =
      let (g, serves, followed) = one i read in
      untaken
      (taken_at s.keys.surface g serves.catalogue.0 n (plain_brief b) (reads g serves i read) c
      followed.stands)

-- ---- a store that was read before

module _ {D : Type 0} (tells : DiskTells D) (old s : Opened D) (stays : StaysAsItWas tells old s ⊥)
  where
    pub surface_stays : s.keys.surface ≡ old.keys.surface
    surface_stays = ap (λ (x : Opened D). x.keys.surface) stays.kept

    -- what was followed of each history for which it stood is followed of one for which it stands
    pub one_followed : (n : ℕ) (c : Catalogue) (seen : Seen) → FollowsEach tells old n c seen
        → (g : SealedHistory) → Serves tells g old → FollowsOne tells s n c seen
    one_followed n c seen each g serves i read = (
      g,
      stays.served g serves,
      subst (λ (master : List ℕ). FollowsFirst master g n c seen) (sym surface_stays)
          (each g serves i (sym stays.untouched.reads_same ∙ read)),
    )

    -- and with one update more of each
    pub each_followed : (n : ℕ) (c next : Catalogue) (seen later : Seen)
        → FollowsEach tells old n c seen → FollowsNext tells s n c seen next later
        → FollowsEach tells old (n + 1) next later
    each_followed n c next seen later each more g serves i read =
        subst (λ (master : List ℕ). FollowsFirst master g (n + 1) next later) surface_stays
        (more g (stays.served g serves) i (stays.untouched.reads_same ∙ read)
        (subst (λ (master : List ℕ). FollowsFirst master g n c seen) (sym surface_stays)
        (each g serves i read)))
