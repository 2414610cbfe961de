-- What an open store is like that is read, and what is found of its updates.
use Rattle.std.specs.Prelude.{ℕ, ⊤, ◌≡◌, Err, List, Ok, Option, Result}
use Rattle.ov_disk.specs.Disk.{Image}
use Rattle.ov_disk.specs.Moments.{IsUntouched}
use Rattle.ov_disk.specs.Tells.{DiskTells}
use Rattle.ov_disk.specs.declared.area.Area.TheVariants.{Book}
use Rattle.ov_history.specs.Briefs.{numbered_brief}
use Rattle.ov_history.specs.Catalogue.{Catalogue, catalogue_after, file_names_shown}
use Rattle.ov_history.specs.Sealed.{SealedHistory}
use Rattle.ov_machine.specs.Disks.{TellsNothing}
use Rattle.ov_record.specs.Briefs.{Brief as SpelledBrief}
use Rattle.ov_record.specs.declared.brief.Brief.{Brief}
use Rattle.ov_state.specs.Plans.{IsTaken}
use Rattle.ov_state.specs.declared.state.TheConstants.{WIDTH}
use Rattle.ov_store.specs.Briefs.{ReadsUpdate}
use Rattle.ov_store.specs.Opened.{Opened, Serves}
use Rattle.ov_store.specs.Updating.{IsCallOf}
use Rattle.ov_store.specs.declared.fault.BeginFault.{BeginFault}
use Rattle.ov_store.specs.declared.fault.BeginFault.TheVariants.{BaseDiffers, Damaged, Disk as DiskFailed, Memory, ModeDiffers, NotAStore, SurfaceDiffers}

-- The store is as it was, but for its disk, which was read and not written.
pub record StaysAsItWas {D : Type 0} (tells : DiskTells D) (old new : Opened D) (failed : Type 0)
    : Type 0 where
  pub kept : new ≡ record old { disk = new.disk }
  pub untouched : IsUntouched tells old.disk new.disk
  pub served : (g : SealedHistory) → Serves tells g old → Serves tells g new
  pub call : IsCallOf tells old new failed

-- Why the updates of an open store weren't all read. A record is said to be damaged only where the
-- disk doesn't tell its bytes.
abbrev pub IsFaultOfStore : Option Image → BeginFault → Type 0
IsFaultOfStore reads DiskFailed = ⊤
IsFaultOfStore reads NotAStore = ⊥
IsFaultOfStore reads (Damaged area place) = (area ≡ Book) × TellsNothing reads
IsFaultOfStore reads (BaseDiffers stored given) = ⊥
IsFaultOfStore reads (SurfaceDiffers stored given) = ⊥
IsFaultOfStore reads (ModeDiffers stored given) = ⊥
IsFaultOfStore reads Memory = ⊤

-- what is found for update number `i` of the store
abbrev pub FindsUpdate : {D : Type 0} → DiskTells D → Opened D → ℕ
    → Result (Option (Brief WIDTH)) BeginFault → Type 0
FindsUpdate tells s i (Ok found) = ReadsUpdate tells s i (Ok found)
FindsUpdate tells s i (Err fault) = IsFaultOfStore (tells.reads s.disk) fault

-- What is made of an update that a record spells so: the catalogue goes on with it; or it isn't
-- taken, which is said as damage.
abbrev pub MakesUpdate : {T : Type 0} → List ℕ → Catalogue → SpelledBrief → Catalogue
    → Result T BeginFault → Type 0
MakesUpdate master old b new (Ok done) =
    IsTaken old (numbered_brief (file_names_shown old) b)
    × (new ≡ catalogue_after master old (numbered_brief (file_names_shown old) b))
MakesUpdate master old b new (Err DiskFailed) = ⊥
MakesUpdate master old b new (Err NotAStore) = ⊥
MakesUpdate master old b new (Err (Damaged area place)) =
    (area ≡ Book) × (IsTaken old (numbered_brief (file_names_shown old) b) → ⊥)
MakesUpdate master old b new (Err (BaseDiffers stored given)) = ⊥
MakesUpdate master old b new (Err (SurfaceDiffers stored given)) = ⊥
MakesUpdate master old b new (Err (ModeDiffers stored given)) = ⊥
MakesUpdate master old b new (Err Memory) = ⊤
