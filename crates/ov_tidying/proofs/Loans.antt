-- What is promised over loans of both disks is promised of the disks.
use Rattle.std.proofs.Common.{MutBor, ℕ, ◌∙◌, ◌≡◌, ◌⊎◌, List, None, Option, Some, ap, inl, inr, subst, sym, ⊎_elim}
use Rattle.ov_answering.proofs.Loans.{lent_disk, lent_leaves}
use Rattle.ov_answering.specs.Ending.{LeavesAsAtStart}
use Rattle.ov_base.specs.Causes.{Rose}
use Rattle.ov_disk.specs.Disk.{Image}
use Rattle.ov_disk.specs.Tells.{DiskTells}
use Rattle.ov_history.specs.Masters.{Masters}
use Rattle.ov_history.specs.Plain.{PlainHistory}
use Rattle.ov_history.specs.Sealed.{SealedHistory}
use Rattle.ov_images.specs.Images.{Keys, keys_of}
use Rattle.ov_store.specs.Beginning.{WritesNoBorn}
use Rattle.ov_tidying.proofs.Endings.{by_more}
use Rattle.ov_tidying.specs.Promises.{EndsEarly, ForEachRight, ForImage, ForOldImage, JudgesOld, Tidies, WritesShorter}
use Rattle.ov_tidying.specs.Shorter.{Gets, IsUnbornOrFront}

-- ---- one disk

module _ {D : Type 0} (tells : DiskTells D) (first last : MutBor D) (final : D)
    (back : last.now ≡ final) where
  pub lent_quiet : LeavesAsAtStart (lent_disk tells) first last
      → LeavesAsAtStart tells first.now final
  lent_quiet leaves =
      subst (λ (d : D). LeavesAsAtStart tells first.now d) back
      (lent_leaves tells first last (tells.may_leave first.now) leaves)

  pub lent_born : WritesNoBorn (lent_disk tells) first last → WritesNoBorn tells first.now final
  lent_born writes i read born = lent_quiet (writes i read born)

  pub lent_rose : Rose (tells.faults first.now) (tells.faults last.now)
      → Rose (tells.faults first.now) (tells.faults final)
  lent_rose rose =
      subst (λ (d : D). Rose (tells.faults first.now) (tells.faults d)) back rose

  pub lent_same : last ≡ first → final ≡ first.now
  lent_same same = sym back ∙ ap (λ (d : MutBor D). d.now) same

  lent_gets : (k : Keys) (h : SealedHistory) (status : ℕ)
      → Gets (lent_disk tells) k h status first last → Gets tells k h status first.now final
  lent_gets k h status gets =
      let own : Gets tells k h status first.now last.now =
      record {
        any_moment = λ i read unborn only.
            lent_leaves tells first last (IsUnbornOrFront k h) (gets.any_moment i read unborn only);
        lasts = gets.lasts;
        second = gets.second;
      } in
      subst (λ (d : D). Gets tells k h status first.now d) back own

  lent_shorter : (k : Masters) (p : PlainHistory) (g : SealedHistory) (status : ℕ)
      (old new : Option (List ℕ))
      → WritesShorter (lent_disk tells) k p g status old new first last
      → WritesShorter tells k p g status old new first.now final
  lent_shorter k p g status old new w = record {
    kept = w.kept;
    thinned = w.thinned;
    ends = w.ends;
    shorter = record {
      history = w.shorter.history;
      right = w.shorter.right;
      agree = w.shorter.agree;
      tags = w.shorter.tags;
      gets = lent_gets (keys_of k) w.shorter.history status w.shorter.gets;
    };
  }

  -- what is made of one history, where more may have been a fault
  pub lent_tidies : (k : Masters) (p : PlainHistory) (g : SealedHistory) (status : ℕ)
      (old new : Option (List ℕ)) (faults more : Type 0) → (faults → more)
      → Tidies (lent_disk tells) k p g status old new first last faults
      → Tidies tells k p g status old new first.now final more
  lent_tidies k p g status old new faults more so t = record {
    made = by_case t.made;
    ends = by_more (tells.reads first.now) status faults more so t.ends;
  } where
    by_case : WritesShorter (lent_disk tells) k p g status old new first last
        ⊎ (EndsEarly old new status × (last ≡ first))
        → WritesShorter tells k p g status old new first.now final
        ⊎ (EndsEarly old new status × (final ≡ first.now))
    by_case (inl w) = inl (lent_shorter k p g status old new w)
    by_case (inr early) = inr (early.0, lent_same early.1)

-- ---- what the words ask for

-- what holds of each history
pub old_image_so : (old new : Option Image) (keys : Option (List ℕ))
    (P Q : Masters → PlainHistory → SealedHistory → Type 0)
    → ((k : Masters) (p : PlainHistory) (g : SealedHistory) → P k p g → Q k p g)
    → ForOldImage old new (Unit {0}) keys (λ k i. ForEachRight k i (P k))
    → (asked : Type 0) → ForOldImage old new asked keys (λ k i. ForEachRight k i (Q k))
old_image_so old new None P Q so holds asked = λ _. tt
old_image_so old new (Some file) P Q so holds asked = λ _ k are i read j read_new p g right keeps.
    so k p g (holds tt k are i read j read_new p g right keeps)

-- and of the image
pub image_so : (old : Option Image) (keys : Option (List ℕ)) (P Q : Masters → Image → Type 0)
    → ((k : Masters) (i : Image) → P k i → Q k i) → ForImage old (Unit {0}) keys P
    → (asked : Type 0) → ForImage old asked keys Q
image_so old None P Q so holds asked = λ _. tt
image_so old (Some file) P Q so holds asked = λ _ k are i read. so k i (holds tt k are i read)

pub judged_so : (k : Masters) (i : Image) (status : ℕ) (old new : Option (List ℕ))
    (untouched other : Type 0) → (untouched → other) → JudgesOld k i status old new untouched
    → JudgesOld k i status old new other
judged_so k i status old new untouched other so j = (j.0, λ none. so (j.1 none))

-- ---- both disks

module _ {D E : Type 0} (olds : DiskTells D) (news : DiskTells E)
    (old old_last : MutBor D) (old_final : D) (old_back : old_last.now ≡ old_final)
    (new new_last : MutBor E) (new_final : E) (new_back : new_last.now ≡ new_final) where
  -- a count of faults of one of them rose
  pub lent_disks : Rose (olds.faults old.now) (olds.faults old_last.now)
      ⊎ Rose (news.faults new.now) (news.faults new_last.now)
      → Rose (olds.faults old.now) (olds.faults old_final)
      ⊎ Rose (news.faults new.now) (news.faults new_final)
  lent_disks disks =
      ⊎_elim (λ rose. inl (lent_rose olds old old_last old_final old_back rose))
      (λ rose. inr (lent_rose news new new_last new_final new_back rose)) disks

  pub lent_tells : (asked : Type 0) (keys : Option (List ℕ)) (status : ℕ)
      (put_old put_new : Option (List ℕ)) (keys_rose out_rose : Type 0)
      → ForOldImage (olds.reads old.now) (news.reads new.now) (Unit {0}) keys
      (λ k i. ForEachRight k i (λ p g.
      Tidies (lent_disk news) k p g status put_old put_new new new_last
      (keys_rose ⊎ (out_rose ⊎ (Rose (olds.faults old.now) (olds.faults old_last.now)
      ⊎ Rose (news.faults new.now) (news.faults new_last.now))))))
      → ForOldImage (olds.reads old.now) (news.reads new.now) asked keys
      (λ k i. ForEachRight k i (λ p g.
      Tidies news k p g status put_old put_new new.now new_final
      (keys_rose ⊎ (out_rose ⊎ (Rose (olds.faults old.now) (olds.faults old_final)
      ⊎ Rose (news.faults new.now) (news.faults new_final))))))
  lent_tells asked keys status put_old put_new keys_rose out_rose holds =
      let before : Type 0 =
      keys_rose ⊎ (out_rose ⊎ (Rose (olds.faults old.now) (olds.faults old_last.now)
      ⊎ Rose (news.faults new.now) (news.faults new_last.now))) in
      let more : Type 0 =
      keys_rose ⊎ (out_rose ⊎ (Rose (olds.faults old.now) (olds.faults old_final)
      ⊎ Rose (news.faults new.now) (news.faults new_final))) in
      let so : before → more =
      ⊎_elim (λ rose. inl rose)
      (λ rest. inr (⊎_elim (λ rose. inl rose) (λ disks. inr (lent_disks disks)) rest)) in
      old_image_so (olds.reads old.now) (news.reads new.now) keys
      (λ k p g. Tidies (lent_disk news) k p g status put_old put_new new new_last before)
      (λ k p g. Tidies news k p g status put_old put_new new.now new_final more)
      (λ k p g t. lent_tidies news new new_last new_final new_back k p g status put_old put_new before
      more so t) holds asked
