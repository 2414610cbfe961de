-- An update of a store, as its record spells it, is taken.
use Rattle.std.proofs.Common.{ℕ, ◌++◌, ◌∙◌, ◌∷◌, ◌≡◌, Err, List, [], ap, append_assoc, subst, sym, take}
use Rattle.std.specs.Prelude.{Option}
use Rattle.ov_disk.specs.Disk.{Image}
use Rattle.ov_exposure.proofs.Moments.{sealed_then}
use Rattle.ov_history.proofs.Replaying.{goes_taken}
use Rattle.ov_history.proofs.Showing.{history_is_shown}
use Rattle.ov_history.specs.Briefs.{Brief, brief, numbered_brief}
use Rattle.ov_history.specs.Catalogue.{Catalogue, file_names_shown}
use Rattle.ov_history.specs.History.{Matrix}
use Rattle.ov_history.specs.Lists.{file_names}
use Rattle.ov_history.specs.Sealed.{IsSealed, SealedHistory, StandsFor, with_sealed}
use Rattle.ov_machine.specs.Disks.{TellsNothing}
use Rattle.ov_record.specs.Briefs.{Brief as SpelledBrief}
use Rattle.ov_replaying.specs.Reading.{IsFaultOfStore, MakesUpdate}
use Rattle.ov_state.specs.Plans.{IsTaken}
use Rattle.ov_store.specs.Briefs.{IsUpdateAt}
use Rattle.ov_store.specs.Owners.{with_first}
use Rattle.ov_store.specs.declared.fault.BeginFault.{BeginFault}
use Rattle.ov_store.specs.declared.fault.BeginFault.TheVariants.{BaseDiffers, Damaged, Disk as DiskFailed, Memory, ModeDiffers, NotAStore, SurfaceDiffers}

-- ---- an update of a history that the store stands for

module _ (master : List ℕ) (g : SealedHistory) (fit : IsSealed g) (n : ℕ) (b : SpelledBrief)
    (it : IsUpdateAt g n b) (c : Catalogue)
    (stands : StandsFor master c (with_first g (take n g.updates))) where
  abbrev before : SealedHistory
  before = with_first g (take n g.updates)

  -- it names its files as the catalogue does
  pub update_named : numbered_brief (file_names_shown c) b ≡ brief it.update
  update_named =
      ap (λ (m : Matrix). numbered_brief (file_names m.files) b)
      (history_is_shown master c before stands).matrix
      ∙ it.told

  longer : IsSealed (with_sealed before it.update)
  longer =
      sealed_then g (take n g.updates ++ it.update ∷ []) fit
      (it.rest, it.split ∙ sym (append_assoc (take n g.updates) (it.update ∷ []) it.rest))

  pub update_taken : IsTaken c (brief it.update)
  update_taken = goes_taken master c before it.update stands longer

  -- so it is taken
  pub taken_at : IsTaken c (numbered_brief (file_names_shown c) b)
  taken_at = subst (λ (u : Brief). IsTaken c u) (sym update_named) update_taken

-- why an update that was read isn't made
pub fault_made : (T : Type 0) (reads : Option Image) (master : List ℕ) (old : Catalogue)
    (b : SpelledBrief) (new : Catalogue) (fault : BeginFault)
    → ((IsTaken old (numbered_brief (file_names_shown old) b) → ⊥) → TellsNothing reads)
    → MakesUpdate {T = T} master old b new (Err fault) → IsFaultOfStore reads fault
fault_made T reads master old b new DiskFailed untaken made = tt
fault_made T reads master old b new NotAStore untaken made = made
fault_made T reads master old b new (Damaged area place) untaken made = (made.0, untaken made.1)
fault_made T reads master old b new (BaseDiffers stored given) untaken made = made
fault_made T reads master old b new (SurfaceDiffers stored given) untaken made = made
fault_made T reads master old b new (ModeDiffers stored given) untaken made = made
fault_made T reads master old b new Memory untaken made = tt
