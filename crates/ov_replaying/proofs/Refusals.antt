-- Why no store is opened, or one that was opened isn't handed on. An image that opens is refused for
-- no reason of its own.
use Rattle.std.proofs.Common.{◌≡◌, ◌⊎◌, ◌∙◌, Err, IfErr, IfOk, Ok, Result, ap, false, inl, inr, refl}
use Rattle.std.proofs.Common.{subst, sym}
use Rattle.ov_base.specs.declared.mode.Mode.{Mode}
use Rattle.ov_disk.specs.Disk.{Image, StaysTold, Told}
use Rattle.ov_disk.specs.Tells.{DiskTells}
use Rattle.ov_history.specs.Masters.{Masters}
use Rattle.ov_images.specs.Images.{Keys, Opens, StandsIn, keys_of}
use Rattle.ov_images.proofs.Damage.{damaged_keeps_none}
use Rattle.ov_journal.specs.Standing.{IsUnborn}
use Rattle.ov_report.specs.Faults.{HasValues}
use Rattle.ov_report.proofs.Opening.{faulted_so}
use Rattle.ov_answering.specs.Judging.{FindsPlain, IsRefusal, Refuses}
use Rattle.ov_answering.proofs.Beginning.{right_mode}
use Rattle.ov_store.specs.Beginning.{IsBeginFault, ReadsBorn, disk_left}
use Rattle.ov_store.specs.Opened.{Opened}
use Rattle.ov_store.specs.Opening.{IsOpenFault}
use Rattle.ov_store.specs.declared.begin.BeginRefused.{BeginRefused}
use Rattle.ov_store.specs.declared.fault.BeginFault.{BeginFault}
use Rattle.ov_store.specs.declared.fault.BeginFault.TheVariants.{BaseDiffers, Damaged}
use Rattle.ov_store.specs.declared.fault.BeginFault.TheVariants.{Disk as DiskFailed, Memory as NoMemory}
use Rattle.ov_store.specs.declared.fault.BeginFault.TheVariants.{ModeDiffers, NotAStore}
use Rattle.ov_store.specs.declared.fault.BeginFault.TheVariants.{SurfaceDiffers}
use Rattle.ov_replaying.specs.Opening.{IsOpenRefusal, IsOpenOf, OpensBorn, RefusesStore}
use Rattle.ov_replaying.proofs.OpenStores.{kept_born, mode_kept, open_of}

-- ---- no store is opened

module _ (k : Masters) (i : Image) (born : IsUnborn i.book → ⊥) (mode : Mode) (o : Opens k mode i)
  where
    -- in the mode of the image
    not_begun : (fault : BeginFault) → HasValues fault → IsBeginFault (keys_of k) mode i fault
        → (fault ≡ DiskFailed) ⊎ (fault ≡ NoMemory)
    not_begun fault values why =
        faulted_so (keys_of k) mode o.1 i (right_mode k o.0 o.1 mode o.2.1 o.3) fault values o.4 why

    -- in any mode
    not_opened : (fault : BeginFault) → HasValues fault → IsOpenFault (keys_of k) i fault
        → (fault ≡ DiskFailed) ⊎ (fault ≡ NoMemory)
    not_opened DiskFailed values why = inl refl
    not_opened NoMemory values why = inr refl
    not_opened NotAStore values (inl unborn) = absurd (born unborn)
    not_opened NotAStore values (inr foreign) = not_begun NotAStore values foreign
    not_opened (Damaged area place) values (other, inl none) =
        not_begun (Damaged area place) values (inl none)
    not_opened (Damaged area place) values (other, inr (h, has, for_it, bad)) =
        absurd (damaged_keeps_none (keys_of k) o.1 h i (record { area = area; place = place }) has bad
        (kept_born (keys_of k) o.1 i born o.4))
    not_opened (BaseDiffers stored given) values (other, why) =
        not_begun (BaseDiffers stored given) values why
    not_opened (SurfaceDiffers stored given) values (other, why) =
        not_begun (SurfaceDiffers stored given) values why
    not_opened (ModeDiffers stored given) values why = absurd why

never_opened : (k : Masters) (i : Image) (fault : BeginFault) → HasValues fault
    → IsOpenFault (keys_of k) i fault → OpensBorn k i
    → (fault ≡ DiskFailed) ⊎ (fault ≡ NoMemory)
never_opened k i fault values why (born, (mode, o)) = not_opened k i born mode o fault values why

pub open_refused : (k : Masters) (ks : Keys) (i : Image) (fault : BeginFault) → ks ≡ keys_of k
    → HasValues fault → IsOpenFault ks i fault → RefusesStore k i fault
open_refused k ks i fault same values why =
    let at = subst (λ (x : Keys). IsOpenFault x i fault) same why in record {
      why = inl at;
      opens = never_opened k i fault values at;
    }

-- ---- a store that was opened isn't handed on

another_mode : (stored given : Mode)
    → (ModeDiffers stored given ≡ DiskFailed) ⊎ (ModeDiffers stored given ≡ NoMemory) → ⊥
another_mode stored given (inl same) = absurd (cc same)
another_mode stored given (inr same) = absurd (cc same)

-- what is said of an image in the mode of the store that was opened on it is so in any
module _ (k : Masters) (i : Image) (born : IsUnborn i.book → ⊥) (mode : Mode)
    (stands : StandsIn (keys_of k) mode i) where
  -- it opens in no other
  one_mode : (other : Mode) → Opens k other i → other ≡ mode
  one_mode other o =
      sym (right_mode k o.0 o.1 other o.2.1 o.3)
      ∙ mode_kept (keys_of k) o.1 stands.0 i (kept_born (keys_of k) o.1 i born o.4)
      (kept_born (keys_of k) stands.0 i born stands.2)
      ∙ stands.1

  opens_in : OpensBorn k i → Opens k mode i
  opens_in (again, (other, o)) = subst (λ (m : Mode). Opens k m i) (one_mode other o) o

  in_any : (fault : BeginFault) → IsBeginFault (keys_of k) mode i fault
      → IsOpenFault (keys_of k) i fault
  in_any DiskFailed why = tt
  in_any NoMemory why = tt
  in_any NotAStore why = inr why
  in_any (Damaged area place) why = (mode, why)
  in_any (BaseDiffers stored given) why = (mode, why)
  in_any (SurfaceDiffers stored given) why = (mode, why)
  in_any (ModeDiffers stored given) why =
      absurd (another_mode stored given
      (faulted_so (keys_of k) mode stands.0 i stands.1 (ModeDiffers stored given) tt stands.2 why))

  refusal_in_any : (fault : BeginFault) → IsRefusal k mode i fault → IsOpenRefusal k i fault
  refusal_in_any fault (inl why) = inl (in_any fault why)
  refusal_in_any fault (inr (place, is, wrong)) = inr (place, is, (mode, wrong))

  not_handed_on : (fault : BeginFault) → Refuses k mode i fault → RefusesStore k i fault
  not_handed_on fault refuses = record {
    why = refusal_in_any fault refuses.why;
    opens = λ opens. refuses.opens (opens_in opens);
  }

-- the keys of a store that was opened are those of its masters
pub stands_under : (k : Masters) (ks : Keys) (mode : Mode) (i : Image) → ks ≡ keys_of k
    → StandsIn ks mode i → StandsIn (keys_of k) mode i
stands_under k ks mode i same stands = subst (λ (x : Keys). StandsIn x mode i) same stands

module _ {D : Type 0} (tells : DiskTells D) (k : Masters) (mode : Mode) (first : D)
    (born : Told (tells.reads first) (λ i. IsUnborn i.book → ⊥)) where
  pub check_refused : (r : Result (Opened D) (BeginRefused D))
      → Told (tells.reads first) (λ i. StandsIn (keys_of k) mode i)
      → IfErr r (λ refused. Told (tells.reads first) (λ i. Refuses k mode i refused.fault))
      → IfErr r (λ refused. Told (tells.reads first) (λ i. RefusesStore k i refused.fault))
  check_refused (Ok s) stands refuses = tt
  check_refused (Err refused) stands refuses = λ i read.
      not_handed_on k i (born i read) mode (stands i read) refused.fault (refuses i read)

  -- and one that is
  pub handed_on : (s : Opened D) (r : Result (Opened D) (BeginRefused D))
      → s.keys ≡ keys_of k → s.failed ≡ false
      → ReadsBorn (tells.reads first) (tells.reads s.disk)
      → tells.reads (disk_left r) ≡ tells.reads s.disk
      → IfOk r (λ t. t ≡ record s { disk = t.disk })
      → IfOk r (λ t. Told (tells.reads first) (λ i. FindsPlain tells k mode i t)
      × StaysTold (tells.reads first) (tells.reads t.disk))
      → IfOk r (IsOpenOf tells k (tells.reads first))
  handed_on s (Ok t) keys_are healthy reads quiet same found =
      open_of tells k mode first t
      (ap (λ (x : Opened D). x.keys) same ∙ keys_are)
      (ap (λ (x : Opened D). x.failed) same ∙ healthy)
      born found.0 (λ i read. quiet ∙ reads i read (born i read))
  handed_on s (Err refused) keys_are healthy reads quiet same found = tt
