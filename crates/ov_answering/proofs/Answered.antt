-- All that the answering of a script does, put together and taken apart.
use Rattle.std.proofs.Common.{ℕ, List, Option, Some, None}
use Rattle.std.specs.Prelude.{IfSome}
use Rattle.ov_io.specs.Tells.{SourceTells}
use Rattle.ov_disk.specs.Tells.{DiskTells}
use Rattle.ov_history.specs.Masters.{Masters}
use Rattle.ov_history.specs.Plain.{PlainHistory}
use Rattle.ov_machine.specs.Machine.{AreMasters, KeptOn}
use Rattle.ov_answering.specs.Answered.{AnswersText, StopsText}
use Rattle.ov_answering.specs.Answering.{Stops}
use Rattle.ov_answering.specs.Ending.{EndsAs}
use Rattle.ov_answering.specs.Pacing.{IsPaced}
use Rattle.ov_answering.specs.Tracing.{TracesAs, TracesTo}
use Rattle.ov_answering.specs.declared.answer.Stop.{Stop}

-- a part of what holds under the masters of a key file
each_so : (keys input : Option (List ℕ)) (Opens : Masters → PlainHistory → Type 0) (P Q : Masters → PlainHistory → List ℕ → Type 0)
    → ((k : Masters) (p : PlainHistory) (text : List ℕ) → P k p text → Q k p text)
    → IfSome keys (λ file. IfSome input (λ text. (k : Masters) (p : PlainHistory) → AreMasters file k → Opens k p → P k p text))
    → IfSome keys (λ file. IfSome input (λ text. (k : Masters) (p : PlainHistory) → AreMasters file k → Opens k p → Q k p text))
each_so None input Opens P Q then holds = tt
each_so (Some file) None Opens P Q then holds = tt
each_so (Some file) (Some text) Opens P Q then holds = λ k p are opens. then k p text (holds k p are opens)

module _ {D : Type 0} (tells : DiskTells D) {I : Type 0} (source : SourceTells I) (k : Masters)
    (p : PlainHistory) where
  module _ (input : Option (List ℕ)) (stop : Stop) (first last : KeptOn D) (from to : I) (old new t_old t_new : Option (List ℕ)) where
    abbrev IsAll : List ℕ → Type 0
    IsAll text = StopsText tells source k p text stop first last from to old new t_old t_new

    pub text_stops : IfSome input (λ text. Stops tells k p text stop old new first last)
        → IfSome input (λ _. IsPaced source p from to old new)
        → IfSome input (λ text. TracesTo k p text stop old new t_old t_new)
        → IfSome input IsAll
    text_stops stops paced traced = by input stops paced traced where
      by : (o : Option (List ℕ)) → IfSome o (λ text. Stops tells k p text stop old new first last)
          → IfSome o (λ _. IsPaced source p from to old new)
          → IfSome o (λ text. TracesTo k p text stop old new t_old t_new) → IfSome o IsAll
      by None stops paced traced = tt
      by (Some text) stops paced traced = record { stop_is = stops; paced = paced; traced = traced }

    stops_so : (o : Option (List ℕ)) → IfSome o IsAll
        → IfSome o (λ text. Stops tells k p text stop old new first last)
    stops_so None all = tt
    stops_so (Some text) all = all.stop_is

    paced_so : (o : Option (List ℕ)) → IfSome o IsAll → IfSome o (λ _. IsPaced source p from to old new)
    paced_so None all = tt
    paced_so (Some text) all = all.paced

    traced_so : (o : Option (List ℕ)) → IfSome o IsAll → IfSome o (λ text. TracesTo k p text stop old new t_old t_new)
    traced_so None all = tt
    traced_so (Some text) all = all.traced

    pub stop_of_text : IfSome input IsAll → IfSome input (λ text. Stops tells k p text stop old new first last)
    stop_of_text = stops_so input

    pub pace_of_text : IfSome input IsAll → IfSome input (λ _. IsPaced source p from to old new)
    pace_of_text = paced_so input

    pub trace_of_text : IfSome input IsAll → IfSome input (λ text. TracesTo k p text stop old new t_old t_new)
    trace_of_text = traced_so input

  -- ---- a run

  module _ (input : Option (List ℕ)) (status : ℕ) (first last : D) (from to : I) (old new t_old t_new : Option (List ℕ)) (holds : Type 0) where
    abbrev IsRun : List ℕ → Type 0
    IsRun text = AnswersText tells source k p text status first last from to old new t_old t_new holds

    pub text_answers : IfSome input (λ text. EndsAs tells k p text first last old new status holds)
        → IfSome input (λ _. IsPaced source p from to old new)
        → IfSome input (λ text. TracesAs k p text status old new t_old t_new)
        → IfSome input IsRun
    text_answers ends paced traced = by input ends paced traced where
      by : (o : Option (List ℕ)) → IfSome o (λ text. EndsAs tells k p text first last old new status holds)
          → IfSome o (λ _. IsPaced source p from to old new)
          → IfSome o (λ text. TracesAs k p text status old new t_old t_new) → IfSome o IsRun
      by None ends paced traced = tt
      by (Some text) ends paced traced = record { ends = ends; paced = paced; traced = traced }

    ends_so : (o : Option (List ℕ)) → IfSome o IsRun
        → IfSome o (λ text. EndsAs tells k p text first last old new status holds)
    ends_so None all = tt
    ends_so (Some text) all = all.ends

    pace_so : (o : Option (List ℕ)) → IfSome o IsRun → IfSome o (λ _. IsPaced source p from to old new)
    pace_so None all = tt
    pace_so (Some text) all = all.paced

    trace_so : (o : Option (List ℕ)) → IfSome o IsRun → IfSome o (λ text. TracesAs k p text status old new t_old t_new)
    trace_so None all = tt
    trace_so (Some text) all = all.traced

    pub ends_of_run : IfSome input IsRun
        → IfSome input (λ text. EndsAs tells k p text first last old new status holds)
    ends_of_run = ends_so input

    pub pace_of_run : IfSome input IsRun → IfSome input (λ _. IsPaced source p from to old new)
    pace_of_run = pace_so input

    pub trace_of_run : IfSome input IsRun → IfSome input (λ text. TracesAs k p text status old new t_old t_new)
    trace_of_run = trace_so input

-- ---- a run under the masters of a key file

module _ {D : Type 0} (tells : DiskTells D) {I : Type 0} (source : SourceTells I)
    (keys input : Option (List ℕ)) (Opens : Masters → PlainHistory → Type 0) (status : ℕ)
    (first last : D) (from to : I) (old new t_old t_new : Option (List ℕ)) where
  abbrev Each : (Masters → PlainHistory → List ℕ → Type 0) → Type 0
  Each P =
      IfSome keys (λ file. IfSome input (λ text. (k : Masters) (p : PlainHistory) → AreMasters file k → Opens k p → P k p text))

  abbrev AreRuns : Type 0
  AreRuns =
      Each (λ k p text. AnswersText tells source k p text status first last from to old new t_old t_new (Unit {0}))

  pub ends_of_each : AreRuns → Each (λ k p text. EndsAs tells k p text first last old new status (Unit {0}))
  ends_of_each runs =
      each_so keys input Opens (λ k p text. AnswersText tells source k p text status first last from to old new t_old t_new (Unit {0}))
      (λ k p text. EndsAs tells k p text first last old new status (Unit {0})) (λ k p text run. run.ends) runs

  pub pace_of_each : AreRuns → Each (λ k p text. IsPaced source p from to old new)
  pace_of_each runs =
      each_so keys input Opens (λ k p text. AnswersText tells source k p text status first last from to old new t_old t_new (Unit {0}))
      (λ k p text. IsPaced source p from to old new) (λ k p text run. run.paced) runs

  pub trace_of_each : AreRuns → Each (λ k p text. TracesAs k p text status old new t_old t_new)
  trace_of_each runs =
      each_so keys input Opens (λ k p text. AnswersText tells source k p text status first last from to old new t_old t_new (Unit {0}))
      (λ k p text. TracesAs k p text status old new t_old t_new) (λ k p text run. run.traced) runs
