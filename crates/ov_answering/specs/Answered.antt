-- Inner: no public contract needs this. What the answering of a script does, all in all.
use Rattle.std.specs.Prelude.{ℕ, List, Option}
use Rattle.ov_io.specs.Tells.{SourceTells}
use Rattle.ov_disk.specs.Tells.{DiskTells}
use Rattle.ov_history.specs.Masters.{Masters}
use Rattle.ov_history.specs.Plain.{PlainHistory}
use Rattle.ov_machine.specs.Machine.{KeptOn}
use Rattle.ov_answering.specs.Answering.{Stops}
use Rattle.ov_answering.specs.Ending.{EndsAs}
use Rattle.ov_answering.specs.Pacing.{IsPaced}
use Rattle.ov_answering.specs.Tracing.{TracesAs, TracesTo}
use Rattle.ov_answering.specs.declared.answer.Stop.{Stop}

module _ {D : Type 0} (disk : DiskTells D) {I : Type 0} (source : SourceTells I) where
  -- why the answering of a script stopped and what it left, in which turn the script was taken, and
  -- what was sent
  pub record StopsText (k : Masters) (p : PlainHistory) (text : List ℕ) (stop : Stop)
      (first last : KeptOn D) (from to : I) (old new t_old t_new : Option (List ℕ)) : Type 0 where
    pub stop_is : Stops disk k p text stop old new first last
    pub paced : IsPaced source p from to old new
    pub traced : TracesTo k p text stop old new t_old t_new

  -- how a run over a script ends, where this holds of the disk at first; in which turn the script
  -- was taken, and what was sent
  pub record AnswersText (k : Masters) (p : PlainHistory) (text : List ℕ) (status : ℕ)
      (first last : D) (from to : I) (old new t_old t_new : Option (List ℕ)) (holds : Type 0)
      : Type 0 where
    pub ends : EndsAs disk k p text first last old new status holds
    pub paced : IsPaced source p from to old new
    pub traced : TracesAs k p text status old new t_old t_new
