use Rattle.std.specs.Prelude.{◌≡◌, false}
use Rattle.ov_disk.specs.Disk.{StaysTold}
use Rattle.ov_disk.specs.Moments.{IsUntouched}
use Rattle.ov_history.specs.Sealed.{SealedHistory}
use Rattle.ov_store.specs.Opened.{Serves}
use Rattle.ov_store.specs.Updating.{IsCallOf}
use Rattle.ov_tidy.specs.Copies.{HasCopied, KeepsStep}
use Rattle.ov_tidy.proofs.copying.copy.Given as goal

-- so many kept updates were copied, and nothing was written to the old disk
abbrev pub invariant-places : goal.invariant-places
invariant-places g l = record {
  copied : HasCopied g.D.Disk.tells g.E.Disk.tells l.fn.old l.fn.kept l.fn.new l.i l.new;
  stays : l.old ≡ record l.fn.old { disk = l.old.disk };
  untouched : IsUntouched g.D.Disk.tells l.fn.old.disk l.old.disk;
  served : (h : SealedHistory) → Serves g.D.Disk.tells h l.fn.old → Serves g.D.Disk.tells h l.old;
  whole : l.new.failed ≡ false;
  told : StaysTold (g.E.Disk.tells.reads l.fn.new.disk) (g.E.Disk.tells.reads l.new.disk);
  step : KeepsStep g.E.Disk.tells l.fn.new l.new;
  calls_old : IsCallOf g.D.Disk.tells l.fn.old l.old ⊥;
  calls_new : IsCallOf g.E.Disk.tells l.fn.new l.new ⊥;
}
