-- What is made of a store that was read is made of it as it was before.
use Rattle.std.proofs.Common.{ℕ, ◌∙◌, ◌≡◌, ◌⊎◌, List, Option, ap, arith, inl, inr, subst, sym, ⊎_elim}
use Rattle.ov_base.specs.Causes.{Rose}
use Rattle.ov_disk.specs.Disk.{Told}
use Rattle.ov_disk.specs.Tells.{DiskTells}
use Rattle.ov_history.specs.Sealed.{SealedHistory}
use Rattle.ov_images.specs.Images.{Keys}
use Rattle.ov_replaying.specs.Reading.{StaysAsItWas}
use Rattle.ov_store.specs.Opened.{Opened, Serves}
use Rattle.ov_tidy.specs.Copies.{ForEachThinned}
use Rattle.ov_tidying.proofs.Endings.{by_more}
use Rattle.ov_tidying.specs.Taking.{KeepsPlaces}
use Rattle.ov_tidying.specs.Writing.{ForEachOld, HasThinned, MakesCopy}

-- more may have been a fault
pub makes_more : {E : Type 0} (tells : DiskTells E) (k : Keys) (g : SealedHistory) (status : ℕ)
    (old new : Option (List ℕ)) (first last : E) (faults more : Type 0) → (faults → more)
    → MakesCopy tells k g status old new first last faults
    → MakesCopy tells k g status old new first last more
makes_more tells k g status old new first last faults more so m = record {
  made = m.made;
  ends = by_more (tells.reads first) status faults more so m.ends;
}

module _ {D E : Type 0} (olds : DiskTells D) (news : DiskTells E) (old mid : Opened D)
    (failed : Type 0) (stays : StaysAsItWas olds old mid failed) where
  pub keys_stay : mid.keys ≡ old.keys
  keys_stay = ap (λ (s : Opened D). s.keys) stays.kept

  module _ (kept : List ℕ) (keeps : KeepsPlaces olds old kept) where
    -- the places are kept of some history
    pub thinned_then : (g : SealedHistory) → Serves olds g old → HasThinned olds mid kept
    thinned_then g serves i read = (
      g,
      stays.served g serves,
      keeps g serves i (sym stays.untouched.reads_same ∙ read),
    )

    pub made_then : (last : Opened D) (first after : E) (status : ℕ) (put_old put_new : Option (List ℕ))
        (writes : Type 0)
        → ForEachThinned olds mid kept (λ g. Told (news.reads first) (λ _.
        MakesCopy news mid.keys g status put_old put_new first after
        (writes ⊎ (Rose (olds.faults mid.disk) (olds.faults last.disk)
        ⊎ Rose (news.faults first) (news.faults after)))))
        → ForEachOld olds news old first (λ g.
        MakesCopy news old.keys g status put_old put_new first after
        (writes ⊎ (Rose (olds.faults old.disk) (olds.faults last.disk)
        ⊎ Rose (news.faults first) (news.faults after))))
    made_then last first after status put_old put_new writes makes g serves i read j read_new =
        let before : Type 0 =
        writes ⊎ (Rose (olds.faults mid.disk) (olds.faults last.disk)
        ⊎ Rose (news.faults first) (news.faults after)) in
        let more : Type 0 =
        writes ⊎ (Rose (olds.faults old.disk) (olds.faults last.disk)
        ⊎ Rose (news.faults first) (news.faults after)) in
        let so : before → more =
        ⊎_elim (λ put. inl put)
        (λ disks. inr (⊎_elim
        (λ (rose : Rose (olds.faults mid.disk) (olds.faults last.disk)).
        inl (omega (arith, stays.call.2, rose)))
        (λ rose. inr rose) disks)) in
        subst (λ (ks : Keys). MakesCopy news ks g status put_old put_new first after more) keys_stay
        (makes_more news mid.keys g status put_old put_new first after before more so
        (makes g (stays.served g serves) (keeps g serves i read) i
        (stays.untouched.reads_same ∙ read) j read_new))
