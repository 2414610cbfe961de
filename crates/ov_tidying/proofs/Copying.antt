-- How a copy ends to a store that was just begun.
use Rattle.std.proofs.Common.{ℕ, ◌++◌, ◌∙◌, ◌≡◌, ◌⊎◌, List, Option, ap, arith, inl, inr, length, refl, subst}
use Rattle.std.specs.Prelude.{Err}
use Rattle.ov_answering.proofs.Beginning.{disk_said}
use Rattle.ov_answering.proofs.Statuses.{fault_no_read, not_code_or}
use Rattle.ov_disk.specs.Disk.{Told}
use Rattle.ov_disk.specs.Tells.{DiskTells}
use Rattle.ov_history.specs.History.{epoch_of}
use Rattle.ov_history.specs.Sealed.{SealedHistory, outer_of}
use Rattle.ov_replaying.proofs.Endings.{fault_line_found, line_found}
use Rattle.ov_report.specs.Ends.{EndsIn, EndsOr}
use Rattle.ov_report.specs.Faults.{disk_line, fault_line, fault_status, memory_line}
use Rattle.ov_script.specs.Lines.{reply_line}
use Rattle.ov_script.specs.declared.reply.Reply.TheVariants.{End}
use Rattle.ov_store.specs.Opened.{Opened, Serves}
use Rattle.ov_store.specs.declared.fault.BeginFault.{BeginFault}
use Rattle.ov_store.specs.declared.fault.BeginFault.TheVariants.{Disk as DiskFailed, Memory as NoMemory}
use Rattle.ov_thinning.specs.Thin.{AreThinned}
use Rattle.ov_tidy.specs.Agreeing.{IsCopyOf}
use Rattle.ov_tidy.specs.Copies.{Copies}
use Rattle.ov_tidy.specs.declared.copying.CopyFault.{CopyFault}
use Rattle.ov_tidy.specs.declared.copying.CopyFault.TheVariants.{Changed, Disk as CopyFailed, Memory as CopyMemory}
use Rattle.ov_tidying.specs.Lines.{tidied_line}
use Rattle.ov_tidying.specs.Promises.{tidied}
use Rattle.ov_tidying.specs.Writing.{CopyEnds, EndsCopied, HasThinned, fault_for}

-- ---- why not all was copied

-- that a record changed is never answered of a disk that tells its bytes
pub copy_fault : {D E : Type 0} (olds : DiskTells D) (news : DiskTells E) (old : Opened D)
    (kept : List ℕ) (after : Opened E) (fault : CopyFault) (answer : BeginFault)
    → answer ≡ fault_for fault → Copies olds news old kept after (Err fault)
    → (g : SealedHistory) → Serves olds g old → AreThinned (outer_of g) kept
    → Told (olds.reads old.disk) (λ _. (answer ≡ DiskFailed) ⊎ (answer ≡ NoMemory))
copy_fault olds news old kept after CopyFailed answer is copies g serves thin i read = inl is
copy_fault olds news old kept after CopyMemory answer is copies g serves thin i read = inr is
copy_fault olds news old kept after (Changed place) answer is copies g serves thin i read =
    absurd (copies g serves thin i read)

-- so of the history of which the places are known to be kept
pub some_fault : {D E : Type 0} (olds : DiskTells D) (news : DiskTells E) (old : Opened D)
    (kept : List ℕ) (after : Opened E) (fault : CopyFault) (answer : BeginFault)
    → answer ≡ fault_for fault → Copies olds news old kept after (Err fault)
    → HasThinned olds old kept
    → Told (olds.reads old.disk) (λ _. (answer ≡ DiskFailed) ⊎ (answer ≡ NoMemory))
some_fault olds news old kept after fault answer is copies some i read =
    let (g, serves, thin) = some i read in
    copy_fault olds news old kept after fault answer is copies g serves thin i read

-- a call of a disk is said to have failed where one did
pub call_failed : (fault : CopyFault) (answer : BeginFault) → answer ≡ fault_for fault
    → answer ≡ DiskFailed → fault ≡ CopyFailed
call_failed CopyFailed answer is failed = refl
call_failed CopyMemory answer is failed = absurd (cc (is, failed))
call_failed (Changed place) answer is failed = absurd (cc (is, failed))

-- ---- how it ends

module _ (old new : Option (List ℕ)) (status : ℕ) where
  not_whole : (line : List ℕ) (code : ℕ) → (code ≡ 0 → ⊥) → EndsOr line code old new status
      → status ≡ 0 → ⊥
  not_whole line code other ends zero =
      not_code_or line code 0 old new status ends other (λ z. omega arith) (λ z. omega arith) zero

  module _ {E : Type 0} (tells : DiskTells E) (g : SealedHistory) (kept : List ℕ)
      (after : Opened E) where
    -- what is printed is so of the history
    printed_so : (updates count epoch : ℕ) → updates ≡ length g.updates → count ≡ length kept
        → epoch ≡ epoch_of (outer_of g)
        → tidied_line updates count ++ reply_line (End epoch) ≡ tidied g kept
    printed_so updates count epoch many few at =
        ap (λ n. tidied_line n count ++ reply_line (End epoch)) many
        ∙ ap (λ n. tidied_line (length g.updates) n ++ reply_line (End epoch)) few
        ∙ ap (λ n. tidied_line (length g.updates) (length kept) ++ reply_line (End n)) at

    put_whole : EndsOr (tidied g kept) 0 old new status
        → EndsIn (tidied g kept) 0 old new status
        ⊎ (EndsIn memory_line 7 old new status ⊎ EndsIn disk_line 4 old new status)
    put_whole (inl e) = inl e
    put_whole (inr e) = inr (inl e)

    -- all was copied
    pub whole_ends : (updates count epoch : ℕ) → updates ≡ length g.updates → count ≡ length kept
        → epoch ≡ epoch_of (outer_of g)
        → EndsOr (tidied_line updates count ++ reply_line (End epoch)) 0 old new status
        → (h : SealedHistory) × IsCopyOf g kept h × Serves tells h after
        → EndsCopied tells g kept status old new after
    whole_ends updates count epoch many few at ends copied = record {
      ends = put_whole
          (subst (λ (line : List ℕ). EndsOr line 0 old new status)
          (printed_so updates count epoch many few at) ends);
      whole = λ zero. copied;
    }

    disk_ends : EndsOr disk_line 4 old new status → EndsCopied tells g kept status old new after
    disk_ends ends = record {
      ends = by_case ends;
      whole = λ zero. absurd (not_whole disk_line 4 (λ z. omega arith) ends zero);
    } where
      by_case : EndsOr disk_line 4 old new status
          → EndsIn (tidied g kept) 0 old new status
          ⊎ (EndsIn memory_line 7 old new status ⊎ EndsIn disk_line 4 old new status)
      by_case (inl e) = inr (inr e)
      by_case (inr e) = inr (inl e)

    memory_ends : EndsOr memory_line 7 old new status → EndsCopied tells g kept status old new after
    memory_ends ends = record {
      ends = by_case ends;
      whole = λ zero. absurd (not_whole memory_line 7 (λ z. omega arith) ends zero);
    } where
      by_case : EndsOr memory_line 7 old new status
          → EndsIn (tidied g kept) 0 old new status
          ⊎ (EndsIn memory_line 7 old new status ⊎ EndsIn disk_line 4 old new status)
      by_case (inl e) = inr (inl e)
      by_case (inr e) = inr (inl e)

    -- not all was
    pub fault_ends : (answer : BeginFault) → (answer ≡ DiskFailed) ⊎ (answer ≡ NoMemory)
        → EndsOr (fault_line answer) (fault_status answer) old new status
        → EndsCopied tells g kept status old new after
    fault_ends answer (inl is) ends =
        disk_ends
        (subst (λ (f : BeginFault). EndsOr (fault_line f) (fault_status f) old new status) is ends)
    fault_ends answer (inr is) ends =
        memory_ends
        (subst (λ (f : BeginFault). EndsOr (fault_line f) (fault_status f) old new status) is ends)

  -- ---- its causes

  module _ (disks writes : Type 0) (write : status ≡ 6 → writes) where
    pub whole_causes : (line : List ℕ) → EndsOr line 0 old new status → CopyEnds status disks writes
    whole_causes line ends =
        let never = λ (n : ℕ). not_code_or line 0 n old new status ends in record {
          disk = λ e.
              absurd (never 4 (λ z. omega arith) (λ z. omega arith) (λ z. omega arith) e);
          read = λ e. never 5 (λ z. omega arith) (λ z. omega arith) (λ z. omega arith) e;
          write = write;
          some = line_found line old new status ends;
        }

    pub fault_causes : (answer : BeginFault) → (answer ≡ DiskFailed → disks)
        → EndsOr (fault_line answer) (fault_status answer) old new status
        → CopyEnds status disks writes
    fault_causes answer call ends = record {
      disk = λ e. call (disk_said answer (fault_line answer) old new status ends e);
      read = λ e. fault_no_read answer (fault_line answer) old new status ends e;
      write = write;
      some = fault_line_found answer old new status ends;
    }
