-- An open store that is read stays as it was.
use Rattle.std.proofs.Common.{◌∙◌, ◌≡◌, ◌⊎◌, ap, arith, inl, inr, refl}
use Rattle.std.specs.Prelude.{Option, Some}
use Rattle.ov_disk.proofs.Runs.{looks_then, untouched}
use Rattle.ov_disk.specs.Disk.{Image}
use Rattle.ov_disk.specs.Moments.{IsUntouched}
use Rattle.ov_disk.specs.Tells.{DiskTells}
use Rattle.ov_history.specs.Sealed.{SealedHistory}
use Rattle.ov_replaying.specs.Reading.{IsFaultOfStore, StaysAsItWas}
use Rattle.ov_store.specs.Opened.{Opened, Serves}
use Rattle.ov_store.specs.Updating.{IsCallOf}
use Rattle.ov_store.specs.declared.fault.BeginFault.{BeginFault}
use Rattle.ov_store.specs.declared.fault.BeginFault.TheVariants.{BaseDiffers, Damaged, Disk as DiskFailed, Memory as NoMemory, ModeDiffers, NotAStore, SurfaceDiffers}

pub begins_still : {D : Type 0} (tells : DiskTells D) (s : Opened D) → StaysAsItWas tells s s ⊥
begins_still tells s = record {
  kept = refl;
  untouched = untouched tells s.disk;
  served = λ g serves. serves;
  call = (refl, refl, omega arith, λ none. absurd none);
}

-- a read leaves the store as it was
pub stays_read : {D : Type 0} (tells : DiskTells D) (s t : Opened D) (before failed : Type 0)
    → t ≡ record s { disk = t.disk } → IsUntouched tells s.disk t.disk
    → ((g : SealedHistory) → Serves tells g s → Serves tells g t)
    → IsCallOf tells s t before → (failed → before) → StaysAsItWas tells s t failed
stays_read tells s t _ _ kept untouched served call so = record {
  kept = kept;
  untouched = untouched;
  served = served;
  call = (call.0, call.1, call.2, λ is. call.3 (so is));
}

-- two reads that leave the store as it was
pub stays_then : {D : Type 0} (tells : DiskTells D) (old mid new : Opened D) (before failed : Type 0)
    → StaysAsItWas tells old mid before → StaysAsItWas tells mid new failed
    → StaysAsItWas tells old new failed
stays_then {D} tells old mid new _ _ one two = record {
  kept = two.kept ∙ ap {A = Opened D} (λ s. record s { disk = new.disk }) one.kept;
  untouched = looks_then tells old.disk mid.disk new.disk one.untouched two.untouched;
  served = λ g serves. two.served g (one.served g serves);
  call = (
    two.call.0 ∙ one.call.0,
    two.call.1 ∙ one.call.1,
    omega (arith, one.call.2, two.call.2),
    λ is. omega (arith, one.call.2, two.call.3 is),
  );
}

module _ {D : Type 0} (tells : DiskTells D) where
  -- a store that stays as it was, with another reason to have failed
  pub stays_for : (s t : Opened D) (failed other : Type 0) → (other → failed)
      → StaysAsItWas tells s t failed → StaysAsItWas tells s t other
  stays_for s t failed other so stays = record {
    kept = stays.kept;
    untouched = stays.untouched;
    served = stays.served;
    call = (stays.call.0, stays.call.1, stays.call.2, λ is. stays.call.3 (so is));
  }

-- ---- a store that was read before

module _ {D : Type 0} (tells : DiskTells D) (old s : Opened D) (stays : StaysAsItWas tells old s ⊥)
  where
    pub surface_stays : s.keys.surface ≡ old.keys.surface
    surface_stays = ap (λ (x : Opened D). x.keys.surface) stays.kept

    pub stays_on : (t : Opened D) (failed : Type 0) → (⊥ → failed) → StaysAsItWas tells s t failed
        → StaysAsItWas tells old t ⊥
    stays_on t failed none more =
        let quiet : StaysAsItWas tells s t ⊥ =
        stays_read tells s t failed ⊥ more.kept more.untouched more.served more.call none in
        stays_then tells old s t ⊥ ⊥ stays quiet

-- the fault of an open store whose disk tells its bytes
pub told_fault : (reads : Option Image) (i : Image) → reads ≡ Some i → (fault : BeginFault)
    → IsFaultOfStore reads fault → (fault ≡ DiskFailed) ⊎ (fault ≡ NoMemory)
told_fault reads i read DiskFailed why = inl refl
told_fault reads i read NoMemory why = inr refl
told_fault reads i read NotAStore why = absurd why
told_fault reads i read (Damaged area place) why = absurd (why.1 i read)
told_fault reads i read (BaseDiffers stored given) why = absurd why
told_fault reads i read (SurfaceDiffers stored given) why = absurd why
told_fault reads i read (ModeDiffers stored given) why = absurd why
