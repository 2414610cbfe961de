-- How an audit ends.
use Rattle.std.proofs.Common.{ℕ, ◌++◌, ◌≡◌, ◌⊎◌, List, Option, Some, arith, inl, inr, subst}
use Rattle.std.specs.Io.KnownBytes.{Appends}
use Rattle.ov_answering.proofs.Statuses.{not_code}
use Rattle.ov_answering.specs.Printing.{read_line, usage_line}
use Rattle.ov_auditing.proofs.Printed.{found_printed, none_printed}
use Rattle.ov_auditing.specs.Exposed.{AreFindings, AreUsersOf, IsMissing, IsPrinted}
use Rattle.ov_auditing.specs.Following.{FindsAll}
use Rattle.ov_auditing.specs.Lines.{finding_lines}
use Rattle.ov_auditing.specs.Promises.{EndsTold, IsAuditStatus, RefusesOther, TellsOf}
use Rattle.ov_auditing.specs.declared.audit_words.Asked.{Asked}
use Rattle.ov_base.specs.declared.refusal.Refusal.TheVariants.{NoUser}
use Rattle.ov_disk.specs.Disk.{Image}
use Rattle.ov_disk.specs.Tells.{DiskTells}
use Rattle.ov_exposure.specs.Auditing.{Finding}
use Rattle.ov_history.specs.Masters.{Masters}
use Rattle.ov_history.specs.Sealed.{SealedHistory, StandsFor}
use Rattle.ov_images.specs.Images.{Keys, keys_of}
use Rattle.ov_replaying.proofs.Endings.{fault_seven, fault_six}
use Rattle.ov_report.specs.Ends.{EndsIn, EndsOr}
use Rattle.ov_report.specs.Faults.{disk_line, fault_line, fault_status, memory_line}
use Rattle.ov_script.specs.Lines.{reply_line}
use Rattle.ov_script.specs.declared.reply.Reply.TheVariants.{End, Refused}
use Rattle.ov_store.specs.Opened.{Opened, Serves}
use Rattle.ov_store.specs.declared.fault.BeginFault.{BeginFault}
use Rattle.ov_store.specs.declared.fault.BeginFault.TheVariants.{Disk as DiskFailed, Memory as NoMemory}

-- ---- statuses

pub audit_six : IsAuditStatus 6
audit_six = inr (inr (inr (inr fault_six)))

pub audit_seven : IsAuditStatus 7
audit_seven = inr (inr (inr (inr fault_seven)))

-- ---- what is printed

module _ (asked : Asked) (k : Masters) (g : SealedHistory) (old new : Option (List ℕ)) (status : ℕ)
  where
    module _ (faults : Type 0) (write : status ≡ 6 → faults) where
      put : (line : List ℕ) → IsPrinted asked.names asked.server k.surface g line
          → EndsOr line 0 old new status → EndsTold asked k g old new status
      put line is (inl e) = inl (line, is, e)
      put line is (inr e) = inr (inl e)

      failed : EndsOr disk_line 4 old new status → EndsTold asked k g old new status
      failed (inl e) = inr (inr (inl e))
      failed (inr e) = inr (inl e)

      no_memory : EndsOr memory_line 7 old new status → EndsTold asked k g old new status
      no_memory (inl e) = inr (inl e)
      no_memory (inr e) = inr (inl e)

      fault_put : (fault : BeginFault) → (fault ≡ DiskFailed) ⊎ (fault ≡ NoMemory)
          → EndsOr (fault_line fault) (fault_status fault) old new status
          → EndsTold asked k g old new status
      fault_put fault (inl is) ends =
          failed
          (subst (λ (f : BeginFault). EndsOr (fault_line f) (fault_status f) old new status) is ends)
      fault_put fault (inr is) ends =
          no_memory
          (subst (λ (f : BeginFault). EndsOr (fault_line f) (fault_status f) old new status) is ends)

      whole : (line : List ℕ) → EndsOr line 0 old new status → (faults → ⊥)
          → (status ≡ 0) ⊎ (status ≡ 7)
      whole line (inl (inl q)) none = inl q.0
      whole line (inl (inr q)) none = absurd (none (write q.0))
      whole line (inr (inl q)) none = inr q.0
      whole line (inr (inr q)) none = absurd (none (write q.0))

      printed_so : (line : List ℕ) → IsPrinted asked.names asked.server k.surface g line
          → EndsOr line 0 old new status → TellsOf asked k g status old new faults
      printed_so line is ends = record {
        ends = put line is ends;
        complete = whole line ends;
      }

      memory_only : EndsOr memory_line 7 old new status → (faults → ⊥)
          → (status ≡ 0) ⊎ (status ≡ 7)
      memory_only (inl (inl q)) none = inr q.0
      memory_only (inl (inr q)) none = absurd (none (write q.0))
      memory_only (inr (inl q)) none = inr q.0
      memory_only (inr (inr q)) none = absurd (none (write q.0))

      fault_only : (fault : BeginFault) → (fault ≡ DiskFailed) ⊎ (fault ≡ NoMemory)
          → EndsOr (fault_line fault) (fault_status fault) old new status
          → (fault ≡ DiskFailed → faults) → (faults → ⊥) → (status ≡ 0) ⊎ (status ≡ 7)
      fault_only fault (inl is) ends call none = absurd (none (call is))
      fault_only fault (inr is) ends call none =
          memory_only
          (subst (λ (f : BeginFault). EndsOr (fault_line f) (fault_status f) old new status) is ends)
          none

      -- a line on a fault was put
      pub fault_tells : (fault : BeginFault) → (fault ≡ DiskFailed) ⊎ (fault ≡ NoMemory)
          → EndsOr (fault_line fault) (fault_status fault) old new status
          → (fault ≡ DiskFailed → faults) → TellsOf asked k g status old new faults
      fault_tells fault is ends call = record {
        ends = fault_put fault is ends;
        complete = fault_only fault is ends call;
      }

      -- the key file couldn't be read
      pub unread_tells : EndsIn read_line 5 old new status → faults
          → TellsOf asked k g status old new faults
      unread_tells ends fault = record {
        ends = inr (inr (inr ends));
        complete = λ none. absurd (none fault);
      }

      -- memory was refused before
      pub memory_tells : EndsIn memory_line 7 old new status
          → TellsOf asked k g status old new faults
      memory_tells ends = record {
        ends = inr (inl ends);
        complete = memory_only (inl ends);
      }

      -- of an open store
      module _ {D : Type 0} (tells : DiskTells D) (s : Opened D) (keys_are : s.keys ≡ keys_of k)
          (serves : Serves tells g s) (epoch : ℕ) (epoch_is : epoch ≡ s.catalogue.epoch) where
        stands : StandsFor k.surface s.catalogue g
        stands =
            subst (λ (x : Keys). StandsFor x.surface s.catalogue g) keys_are serves.catalogue

        pub missing_tells : IsMissing s.catalogue.users asked.names
            → EndsOr (reply_line (Refused NoUser) ++ reply_line (End epoch)) 0 old new status
            → TellsOf asked k g status old new faults
        missing_tells missing ends =
            printed_so (reply_line (Refused NoUser) ++ reply_line (End s.catalogue.epoch))
            (none_printed asked.names asked.server k.surface g s.catalogue stands missing)
            (subst (λ (n : ℕ). EndsOr (reply_line (Refused NoUser) ++ reply_line (End n)) 0 old new
            status) epoch_is ends)

        pub found_tells : (i : Image) → tells.reads s.disk ≡ Some i
            → (set : ℕ) (findings : List Finding) → AreUsersOf s.catalogue.users asked.names set
            → FindsAll tells s set asked.server findings
            → EndsOr (finding_lines findings ++ reply_line (End epoch)) 0 old new status
            → TellsOf asked k g status old new faults
        found_tells i read set findings named finds ends =
            printed_so (finding_lines findings ++ reply_line (End s.catalogue.epoch))
            (found_printed asked.names asked.server k.surface g s.catalogue stands set findings named
            (λ users are there. subst
            (λ (x : Keys). AreFindings asked.server x.surface g users findings) keys_are
            (finds g serves i read users are there)))
            (subst (λ (n : ℕ). EndsOr (finding_lines findings ++ reply_line (End n)) 0 old new
            status) epoch_is ends)

    -- more may have been a fault
    pub more_faults : (faults more : Type 0) → (faults → more)
        → TellsOf asked k g status old new faults → TellsOf asked k g status old new more
    more_faults faults more so t = record {
      ends = t.ends;
      complete = λ none. t.complete (λ fault. none (so fault));
    }

-- ---- the words

module _ (other : Type 0) (old new : Option (List ℕ)) (status : ℕ) (untouched : Type 0) where
  used : EndsIn usage_line 2 old new status → status ≡ 2 → Appends old new usage_line
  used (inl q) two = q.1
  used (inr q) two = let six : status ≡ 6 = q.0 in absurd (omega arith)

  -- the words ask for no audit
  pub other_words : other → untouched → EndsIn usage_line 2 old new status
      → RefusesOther other status old new untouched
  other_words are left ends = record {
    usage = λ two. (are, used ends two);
    ends = λ _. inl ends;
    unread = λ _. left;
  }

  -- memory was refused while they were read
  pub unknown_words : untouched → EndsIn memory_line 7 old new status
      → RefusesOther other status old new untouched
  unknown_words left ends = record {
    usage = λ two.
        absurd (not_code memory_line 7 2 old new status ends (λ z. omega arith) (λ z. omega arith)
        two);
    ends = λ _. inr ends;
    unread = λ _. left;
  }

  -- they ask for one
  pub known_words : (other → ⊥) → (status ≡ 2 → ⊥) → RefusesOther other status old new untouched
  known_words no_other low = record {
    usage = λ two. absurd (low two);
    ends = λ are. absurd (no_other are);
    unread = λ are. absurd (no_other are);
  }
