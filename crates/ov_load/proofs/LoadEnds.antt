-- How a load ends, by how the answering of its commands did.
use Rattle.std.proofs.Common.{◌≡◌, ◌⊎◌, inl, inr, ℕ, ◌+◌, List, ◌++◌, refl, ◌∙◌, ap, subst, arith, Option, None, Ok, Err}
use Rattle.sha2.specs.Sha256.{sha256}
use Rattle.ov_disk.specs.Disk.{Image, StaysTold, Told}
use Rattle.ov_disk.specs.Moments.{LeavesOnly}
use Rattle.ov_disk.proofs.Runs.{started, then_on, weaker}
use Rattle.ov_disk.specs.Tells.{DiskTells}
use Rattle.ov_images.specs.Images.{keys_of}
use Rattle.ov_script.specs.Lines.{reply_line}
use Rattle.ov_script.specs.Workload.{workload}
use Rattle.ov_script.specs.declared.drawn.TheConstants.{WORKLOAD_USERS}
use Rattle.ov_script.specs.declared.reply.Reply.TheVariants.{End as EndReply}
use Rattle.ov_history.specs.History.{epoch_of}
use Rattle.ov_history.specs.Masters.{Masters}
use Rattle.ov_history.specs.Plain.{PlainHistory, history_of}
use Rattle.ov_model.specs.Lines.{lines}
use Rattle.ov_store.specs.Beginning.{IsNew, LeavesHistory}
use Rattle.ov_store.specs.Opened.{Opened}
use Rattle.ov_store.specs.declared.fault.BeginFault.{BeginFault}
use Rattle.ov_store.specs.declared.fault.BeginFault.TheVariants.{Disk as BeginDisk, NotAStore, Damaged, BaseDiffers, SurfaceDiffers, ModeDiffers, Memory as BeginMemory}
use Rattle.ov_report.specs.Ends.{EndsIn, EndsOr}
use Rattle.ov_report.specs.Faults.{disk_line, fault_line, fault_status, memory_line}
use Rattle.ov_machine.specs.Disks.{Holds, StandsForPlain}
use Rattle.ov_machine.specs.Machine.{KeptOn, StandsFor, opened_of}
use Rattle.ov_machine.specs.declared.fault.BadTag.{BadTag}
use Rattle.ov_machine.specs.declared.fault.StepFault.{StepFault}
use Rattle.ov_machine.specs.declared.fault.StepFault.TheVariants.{Disk, Memory, Tag, Trace}
use Rattle.ov_machine.proofs.Stepping.{shows}
use Rattle.ov_answering.specs.Answering.{Finishes, stop_for}
use Rattle.ov_answering.specs.Judging.{FindsPlain, Refuses}
use Rattle.ov_answering.specs.Lasting.{LastsAs, OpensAs}
use Rattle.ov_answering.specs.Printing.{IsScriptStatus, read_line}
use Rattle.ov_answering.proofs.Beginning.{begun_holds, ends_in_fault, leaves, leaves_plain, opens_image, opens_plain, over_stands, serves, sound, told}
use Rattle.ov_answering.proofs.Statuses.{ends_so, not_code, not_code_or, script_seven, script_six}
use Rattle.ov_answering.proofs.Surviving.{lasts_held, none_put, not_zero}
use Rattle.ov_load.specs.LoadEnding.{LoadEndsAs, LoadTracesAs, TracedTo, TracesLoad}
use Rattle.ov_load.specs.Loading.{EndsLoad, IsComplete, IsOfNoScript, KeepsSome, LoadedTo, Loads, PutsSummary, after_load}
use Rattle.ov_load.specs.Summary.{load_lines, seven_lines}
use Rattle.ov_load.specs.Tallying.{counted_all, none_counted}
use Rattle.ov_load.specs.declared.load_words.Load.{Load}
use Rattle.ov_load.specs.declared.tally.Counts.{Counts}
use Rattle.ov_load.specs.declared.tally.Tally.{Tally}
use Rattle.ov_load.proofs.LoadTracing.{as_sent, as_stopped, as_unsent, sent_holding}

-- ---- the status

pub summary_status : (load : Load) (tally : Tally) (epoch : ℕ) (old new : Option (List ℕ)) (status : ℕ)
    → PutsSummary load tally epoch old new status → IsScriptStatus status
summary_status load tally epoch old new status (inl (text, is, e)) = ends_so IsScriptStatus text 0 old new status (inl (inl refl)) script_six e
summary_status load tally epoch old new status (inr e) = ends_so IsScriptStatus memory_line 7 old new status script_seven script_six e

pub summary_not : (n : ℕ) (load : Load) (tally : Tally) (epoch : ℕ) (old new : Option (List ℕ)) (status : ℕ)
    → PutsSummary load tally epoch old new status → (0 ≡ n → ⊥) → (6 ≡ n → ⊥) → (7 ≡ n → ⊥) → status ≡ n → ⊥
summary_not n load tally epoch old new status (inl (text, is, e)) zero six seven = not_code text 0 n old new status e zero six
summary_not n load tally epoch old new status (inr e) zero six seven = not_code memory_line 7 n old new status e seven six

-- a fault of a step ends in the status of no script
pub fault_no_script : (fault : StepFault) (epoch : ℕ) (old new : Option (List ℕ)) (status : ℕ) → Finishes (stop_for fault) epoch old new status → IsOfNoScript status
fault_no_script Disk epoch old new status f =
    (not_code disk_line 4 3 old new status f (λ z. omega arith) (λ z. omega arith), not_code disk_line 4 11 old new status f (λ z. omega arith) (λ z. omega arith))
fault_no_script Memory epoch old new status f =
    (not_code memory_line 7 3 old new status f (λ z. omega arith) (λ z. omega arith), not_code memory_line 7 11 old new status f (λ z. omega arith) (λ z. omega arith))
fault_no_script Trace epoch old new status f =
    ((λ e. let six : status ≡ 6 = f.0 in omega (arith, six, e)), (λ e. let six : status ≡ 6 = f.0 in omega (arith, six, e)))
fault_no_script (Tag bad) epoch old new status f = (
  not_code_or _ 12 3 old new status f (λ z. omega arith) (λ z. omega arith) (λ z. omega arith),
  not_code_or _ 12 11 old new status f (λ z. omega arith) (λ z. omega arith) (λ z. omega arith),
)

-- a wrong tag is found at no history
pub no_tag : {D : Type 0} (tells : DiskTells D) (k : Masters) (h : PlainHistory) (load : Load) (first last : KeptOn D)
    (fault : StepFault) (bad : BadTag) → fault ≡ Tag bad → Loads tells k h load first last (Err fault) → ⊥
no_tag tells k h load first last fault bad is loads =
    subst (λ (f : StepFault). Loads tells k h load first last (Err f)) is loads

-- a write failed: not that of a reply, so that of a frame, or that of the last line
pub wrote_or : (P Q F L : Type 0) → (P → ⊥) → (Q → F) → (P ⊎ Q) ⊎ L → L ⊎ F
wrote_or P Q F L never frame (inl (inl p)) = absurd (never p)
wrote_or P Q F L never frame (inl (inr q)) = inr (frame q)
wrote_or P Q F L never frame (inr line) = inl line

-- a disk that doesn't open ends with neither 3 nor 11
begin_not : (fault : BeginFault) → (fault_status fault ≡ 3 → ⊥) × (fault_status fault ≡ 11 → ⊥)
begin_not BeginDisk = (λ e. omega arith, λ e. omega arith)
begin_not BeginMemory = (λ e. omega arith, λ e. omega arith)
begin_not NotAStore = (λ e. omega arith, λ e. omega arith)
begin_not (Damaged area place) = (λ e. omega arith, λ e. omega arith)
begin_not (BaseDiffers stored given) = (λ e. omega arith, λ e. omega arith)
begin_not (SurfaceDiffers stored given) = (λ e. omega arith, λ e. omega arith)
begin_not (ModeDiffers stored given) = (λ e. omega arith, λ e. omega arith)

pub begin_no_script : (fault : BeginFault) (line : List ℕ) (old new : Option (List ℕ)) (status : ℕ) → EndsOr line (fault_status fault) old new status → IsOfNoScript status
begin_no_script fault line old new status e = (
  not_code_or line (fault_status fault) 3 old new status e (begin_not fault).0 (λ z. omega arith) (λ z. omega arith),
  not_code_or line (fault_status fault) 11 old new status e (begin_not fault).1 (λ z. omega arith) (λ z. omega arith),
)

pub line_no_script : (line : List ℕ) (code : ℕ) (old new : Option (List ℕ)) (status : ℕ) → EndsIn line code old new status → (code ≡ 3 → ⊥) → (code ≡ 11 → ⊥) → IsOfNoScript status
line_no_script line code old new status e three eleven =
    (not_code line code 3 old new status e three (λ z. omega arith), not_code line code 11 old new status e eleven (λ z. omega arith))

-- where no count of faults rose the load came to its end, but for memory
pub completes : (load : Load) (h : PlainHistory) (old new : Option (List ℕ)) (status : ℕ) (keys out disk : Type 0)
    → (status ≡ 4 → disk) → (status ≡ 5 → keys) → (status ≡ 6 → out) → EndsLoad load h old new status → IsComplete status keys out disk
completes load h old new status keys out disk call read write (inl (inl (inl q))) no_keys no_out no_disk = inl q.0
completes load h old new status keys out disk call read write (inl (inl (inr q))) no_keys no_out no_disk = absurd (no_out (write q.0))
completes load h old new status keys out disk call read write (inl (inr (inl q))) no_keys no_out no_disk = inr q.0
completes load h old new status keys out disk call read write (inl (inr (inr q))) no_keys no_out no_disk = absurd (no_out (write q.0))
completes load h old new status keys out disk call read write (inr (inl (inl q))) no_keys no_out no_disk = absurd (no_disk (call q.0))
completes load h old new status keys out disk call read write (inr (inl (inr q))) no_keys no_out no_disk = absurd (no_out (write q.0))
completes load h old new status keys out disk call read write (inr (inr (inl q))) no_keys no_out no_disk = absurd (no_keys (read q.0))
completes load h old new status keys out disk call read write (inr (inr (inr q))) no_keys no_out no_disk = absurd (no_out (write q.0))

-- ---- what was put and what lasts

module _ {D : Type 0} (tells : DiskTells D) (k : Masters) (h : PlainHistory) (load : Load)
    (old new t_old t_new : Option (List ℕ)) (status : ℕ) where
  module _ (first last : KeptOn D) where
    module _ (tally : Tally)
        (s : LoadedTo tells k h load (WORKLOAD_USERS + load.count) tally first last) where
      -- the tally's lines are those of the history
      summary_is : (n : ℕ) → n ≡ last.kept.catalogue.epoch
          → seven_lines load tally.counts n (sha256 (lines h (workload load.number load.count) ++ reply_line (EndReply n))) ≡ load_lines load h
      summary_is n count =
          let epoch : n ≡ epoch_of (history_of (after_load h load)) = count ∙ (shows last.kept (after_load h load) s.stands).epoch in
          ap (λ (c : Counts). seven_lines load c n (sha256 (lines h (workload load.number load.count) ++ reply_line (EndReply n)))) s.counts
          ∙ ap (λ m. seven_lines load (counted_all none_counted h (workload load.number load.count)) m
          (sha256 (lines h (workload load.number load.count) ++ reply_line (EndReply m)))) epoch

      printed_so : (n : ℕ) → n ≡ last.kept.catalogue.epoch → PutsSummary load tally n old new status → EndsLoad load h old new status
      printed_so n count (inl (text, is, e)) =
          inl (inl (subst (λ l. EndsIn l 0 old new status) (is (lines h (workload load.number load.count)) s.hashed ∙ summary_is n count) e))
      printed_so n count (inr e) = inl (inr e)

      lasts_so : Holds tells k h h first.disk → LastsAs tells k h (after_load h load) last.disk
      lasts_so holds = lasts_held tells k h (after_load h load) s.stands.0.0 last.disk (s.holds holds)

      pub ends_loaded : (n : ℕ) → n ≡ last.kept.catalogue.epoch
          → PutsSummary load tally n old new status → TracesLoad tells k h load last.disk t_old t_new (Holds tells k h h first.disk) (Ok tally)
          → LoadEndsAs tells k h load first.disk last.disk old new t_old t_new status (Holds tells k h h first.disk)
      ends_loaded n count puts sent =
          record { printed = printed_so n count puts; traced = as_sent tells k h load last.disk t_old t_new _ status sent; survives = λ holds. s.moments holds; lasts = λ holds zero. lasts_so holds }

    pub ends_faulted : (fault : StepFault) (n : ℕ) → Loads tells k h load first last (Err fault) → Finishes (stop_for fault) n old new status
        → TracedTo tells k h load last.disk t_old t_new (Holds tells k h h first.disk)
        → LoadEndsAs tells k h load first.disk last.disk old new t_old t_new status (Holds tells k h h first.disk)
    ends_faulted Disk n loads f sent = record {
      printed = inr (inl f);
      traced = as_stopped tells k h load last.disk t_old t_new _ status (not_zero disk_line 4 old new status f (λ z. omega arith)) sent;
      survives = loads;
      lasts = λ holds zero. absurd (not_zero disk_line 4 old new status f (λ z. omega arith) zero);
    }
    ends_faulted Trace n loads f sent = record {
      printed = inr (inl (inr (f.0, (0, none_put old new f.1))));
      traced = as_stopped tells k h load last.disk t_old t_new _ status (λ zero. let six : status ≡ 6 = f.0 in omega (arith, six, zero)) sent;
      survives = loads;
      lasts = λ holds zero. absurd (let six : status ≡ 6 = f.0 in omega (arith, six, zero));
    }
    ends_faulted Memory n loads f sent = record {
      printed = inl (inr f);
      traced = as_stopped tells k h load last.disk t_old t_new _ status (not_zero memory_line 7 old new status f (λ z. omega arith)) sent;
      survives = loads;
      lasts = λ holds zero. absurd (not_zero memory_line 7 old new status f (λ z. omega arith) zero);
    }
    ends_faulted (Tag bad) n loads f sent = absurd loads

  -- ---- from the call that opens the disk

  some_first : (c : Image) → StandsForPlain k h h c → KeepsSome k h load c
  some_first c stands = (0, omega arith, stands)

  module _ (first : D) (opens : OpensAs tells k load.mode h first) where
    -- the disk didn't open
    pub load_refused : (last : D) (fault : BeginFault) → Told (tells.reads first) (λ i. Refuses k load.mode i fault)
        → EndsOr (fault_line fault) (fault_status fault) old new status → LeavesHistory tells (keys_of k) load.mode first last
        → LoadEndsAs tells k h load first last old new t_old t_old status (Unit {0})
    load_refused last fault refuses ends any = by_line said where
      said : EndsIn disk_line 4 old new status ⊎ EndsIn memory_line 7 old new status
      said = ends_in_fault fault old new status ((refuses opens.image opens.told).opens (opens_image tells k load.mode h first opens)) ends

      plain : LeavesOnly tells first last (StandsForPlain k h h)
      plain = leaves_plain tells k load.mode h first opens None old new status last any

      moments : LeavesOnly tells first last (KeepsSome k h load)
      moments = weaker tells first last (StandsForPlain k h h) (KeepsSome k h load) plain some_first

      unsent : (status ≡ 0 → ⊥) → LoadTracesAs tells k h load last t_old t_old status (Unit {0})
      unsent never = as_unsent tells k h load last t_old (Unit {0}) status never (λ _ c left. plain.each c (tells.counts_now last (tells.moment first) c plain.later left))

      by_line : EndsIn disk_line 4 old new status ⊎ EndsIn memory_line 7 old new status
          → LoadEndsAs tells k h load first last old new t_old t_old status (Unit {0})
      by_line (inl e) = record {
        printed = inr (inl e);
        traced = unsent (not_zero disk_line 4 old new status e (λ z. omega arith));
        survives = λ _. moments;
        lasts = λ _ zero. absurd (not_zero disk_line 4 old new status e (λ z. omega arith) zero);
      }
      by_line (inr e) = record {
        printed = inl (inr e);
        traced = unsent (not_zero memory_line 7 old new status e (λ z. omega arith));
        survives = λ _. moments;
        lasts = λ _ zero. absurd (not_zero memory_line 7 old new status e (λ z. omega arith) zero);
      }

    here : (c : Image) → tells.may_leave first c → StandsForPlain k h h c
    here = opens_plain tells k load.mode h first opens

    -- the key file couldn't be read
    pub load_unread : EndsIn read_line 5 old new status
        → LoadEndsAs tells k h load first first old new t_old t_old status (Unit {0})
    load_unread e = record {
      printed = inr (inr e);
      traced = as_unsent tells k h load first t_old (Unit {0}) status (not_zero read_line 5 old new status e (λ z. omega arith)) (λ _. here);
      survives = λ _. started tells first (KeepsSome k h load) (λ c left. some_first c (here c left));
      lasts = λ _ zero. absurd (not_zero read_line 5 old new status e (λ z. omega arith) zero);
    }

    -- the disk opened
    module _ (m : KeptOn D) (s : Opened D) (is : opened_of m ≡ s) (masters : m.kept.masters ≡ k) (fresh : IsNew (keys_of k) load.mode s)
        (found : Told (tells.reads first) (λ i. FindsPlain tells k load.mode i s) × StaysTold (tells.reads first) (tells.reads s.disk))
        (any : LeavesHistory tells (keys_of k) load.mode first s.disk) where
      held : Holds tells k h h m.disk
      held =
          begun_holds tells k h m masters
          (sound tells k load.mode h first opens m s is masters fresh found)
          opens.stands.0 opens.stands.1
          (serves tells k load.mode h first opens m s is masters fresh found)
          (told tells k load.mode h first opens None old new status m s is masters fresh found any)

      pub load_begun : (last : D)
          → ((q : PlainHistory) → StandsFor m.kept q → LoadEndsAs tells m.kept.masters q load m.disk last old new t_old t_new status
          (Holds tells m.kept.masters q q m.disk))
          → LoadEndsAs tells k h load first last old new t_old t_new status (Unit {0})
      load_begun last ends =
          let e = subst (λ (x : Masters). LoadEndsAs tells x h load m.disk last old new t_old t_new status (Holds tells x h h m.disk)) masters
          (ends h (over_stands tells k load.mode h first opens m s is masters fresh found)) in record {
            printed = e.printed;
            traced = record { whole = e.traced.whole; first = sent_holding tells k h load last t_old t_new _ held e.traced.first };
            survives = λ _. then_on tells first m.disk last (KeepsSome k h load) (KeepsSome k h load)
                (weaker tells first m.disk (StandsForPlain k h h) (KeepsSome k h load)
                (leaves tells k load.mode h first opens None old new status m s is masters fresh found any) some_first)
                (e.survives held) (λ c keeps. keeps);
            lasts = λ _. e.lasts held;
          }
