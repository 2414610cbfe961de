-- What is made of an image and of a key file.
-- an image that keeps a history that is right opens
use Rattle.std.proofs.Common.{ℕ, ◌≡◌, ◌⊎◌, List, None, arith, inl, inr, refl, subst}
use Rattle.std.specs.Io.KnownBytes.{Appends}
use Rattle.std.specs.Prelude.{IfSome, Option, Some}
use Rattle.ov_answering.proofs.Statuses.{ends_so, not_code, not_refused, script_five, script_seven, script_six}
use Rattle.ov_answering.specs.Ending.{JudgesKeys}
use Rattle.ov_answering.specs.Printing.{IsRefused, keys_line, read_line}
use Rattle.ov_disk.specs.Disk.{Image}
use Rattle.ov_history.specs.FadingLaws.{IsRight}
use Rattle.ov_history.specs.Masters.{Masters}
use Rattle.ov_history.specs.Plain.{PlainHistory}
use Rattle.ov_history.specs.Sealed.{SealedHistory}
use Rattle.ov_images.proofs.Keeping.{is_born}
use Rattle.ov_images.specs.Images.{Keeps, keys_of}
use Rattle.ov_keyfile.specs.KeyFile.{HasMasters}
use Rattle.ov_replaying.proofs.Endings.{fault_low}
use Rattle.ov_replaying.specs.KeyFiles.{JudgesKeyFile}
use Rattle.ov_replaying.specs.Opening.{IsOpenRefusal, JudgesStore, OpensBorn, RefusesStore}
use Rattle.ov_report.specs.Ends.{EndsIn, EndsOr}
use Rattle.ov_report.specs.Faults.{fault_line, fault_status, memory_line}
use Rattle.ov_store.specs.declared.fault.BeginFault.{BeginFault}
use Rattle.ov_store.specs.declared.fault.BeginFault.TheVariants.{Memory as NoMemory}

pub opens_kept : (k : Masters) (p : PlainHistory) (g : SealedHistory) (i : Image) → IsRight k p g
    → Keeps (keys_of k) g i → OpensBorn k i
opens_kept k p g i right keeps =
    ((is_born (keys_of k) g i keeps).1, (p.mode, (p, g, right, refl, inr keeps)))

-- ---- the image

module _ (k : Masters) (i : Image) (old new : Option (List ℕ)) (status : ℕ) where
  -- the image opened
  pub judged_open : OpensBorn k i → (IsRefused status → ⊥) → JudgesStore k i status old new
  judged_open opens low = record {
    refused = λ is. absurd (low is);
    opened = λ _. low;
    ends = λ none. absurd (none opens);
  }

  said : (fault : BeginFault) → IsOpenRefusal k i fault
      → EndsOr (fault_line fault) (fault_status fault) old new status → IsRefused status
      → (fault : BeginFault) × IsOpenRefusal k i fault × (status ≡ fault_status fault)
      × Appends old new (fault_line fault)
  said fault why (inl (inl q)) is = (fault, why, q.0, q.1)
  said fault why (inl (inr q)) is =
      absurd (not_refused 6 script_six (subst IsRefused q.0 is))
  said fault why (inr e) is =
      absurd (ends_so (λ s. IsRefused s → ⊥) memory_line 7 old new status
      (not_refused 7 script_seven) (not_refused 6 script_six) e is)

  -- it was refused
  pub judged_refused : (fault : BeginFault) → RefusesStore k i fault
      → EndsOr (fault_line fault) (fault_status fault) old new status
      → JudgesStore k i status old new
  judged_refused fault refuses ends = record {
    refused = said fault refuses.why ends;
    opened = λ opens. fault_low fault old new status (refuses.opens opens) ends;
    ends = λ none. inl (fault, refuses.why, ends);
  }

  -- the disk wasn't looked at
  judged_before : (line : List ℕ) (code : ℕ) → EndsIn line code old new status
      → (IsRefused code → ⊥)
      → ((fault : BeginFault) × IsOpenRefusal k i fault
      × EndsOr (fault_line fault) (fault_status fault) old new status)
      ⊎ EndsIn read_line 5 old new status → JudgesStore k i status old new
  judged_before line code ends low so =
      let low_then : IsRefused status → ⊥ =
      ends_so (λ s. IsRefused s → ⊥) line code old new status low (not_refused 6 script_six)
      ends in record {
        refused = λ is. absurd (low_then is);
        opened = λ _. low_then;
        ends = λ none. so;
      }

  pub judged_unread : EndsIn read_line 5 old new status → JudgesStore k i status old new
  judged_unread ends = judged_before read_line 5 ends (not_refused 5 script_five) (inr ends)

  pub judged_memory : EndsIn memory_line 7 old new status → JudgesStore k i status old new
  judged_memory ends =
      judged_before memory_line 7 ends (not_refused 7 script_seven)
      (inl (NoMemory, inl tt, inr ends))

-- ---- the key file

module _ (keys old new : Option (List ℕ)) (status : ℕ) (untouched : Type 0) where
  or_memory : EndsIn keys_line 10 old new status ⊎ EndsIn read_line 5 old new status
      → EndsOr keys_line 10 old new status ⊎ EndsIn read_line 5 old new status
  or_memory (inl e) = inl (inl e)
  or_memory (inr e) = inr e

  by_file : (keys : Option (List ℕ))
      → IfSome keys (λ file. (HasMasters file → ⊥)
      → EndsIn keys_line 10 old new status ⊎ EndsIn read_line 5 old new status)
      → IfSome keys (λ file. (HasMasters file → ⊥)
      → EndsOr keys_line 10 old new status ⊎ EndsIn read_line 5 old new status)
  by_file None ends = tt
  by_file (Some file) ends = λ none. or_memory (ends none)

  -- as a run judges it
  pub file_judged : (asked : Type 0) → JudgesKeys asked keys status old new untouched
      → JudgesKeyFile asked keys status old new untouched
  file_judged asked j = record {
    masters = λ zero. j.masters (inl zero);
    none = j.none;
    line = j.line;
    unread = j.unread;
    ends = λ is. by_file keys (j.ends is);
  }

  any_file : (keys : Option (List ℕ)) (P : Type 0) → P
      → IfSome keys (λ file. (HasMasters file → ⊥) → P)
  any_file None P so = tt
  any_file (Some file) P so = λ none. so

  -- memory was refused before it was looked at
  pub file_unknown : (asked : Type 0) → EndsIn memory_line 7 old new status → untouched
      → JudgesKeyFile asked keys status old new untouched
  file_unknown asked ends left =
      let never = λ (n : ℕ). not_code memory_line 7 n old new status ends in record {
        masters = λ e. absurd (never 0 (λ z. omega arith) (λ z. omega arith) e);
        none = λ e. absurd (never 10 (λ z. omega arith) (λ z. omega arith) e);
        line = λ e. absurd (never 10 (λ z. omega arith) (λ z. omega arith) e);
        unread = any_file keys untouched left;
        ends = λ _.
            any_file keys
            (EndsOr keys_line 10 old new status ⊎ EndsIn read_line 5 old new status)
            (inl (inr ends));
      }

  -- what stays untouched may be said in other words
  pub file_asked : (asked : Type 0) (other : Type 0)
      → JudgesKeyFile (Unit {0}) keys status old new untouched → (untouched → other)
      → JudgesKeyFile asked keys status old new other
  file_asked asked other j so = record {
    masters = j.masters;
    none = j.none;
    line = j.line;
    unread = left keys j.unread;
    ends = λ _. j.ends tt;
  } where
    left : (keys : Option (List ℕ)) → IfSome keys (λ file. (HasMasters file → ⊥) → untouched)
        → IfSome keys (λ file. (HasMasters file → ⊥) → other)
    left None u = tt
    left (Some file) u = λ none. so (u none)
