-- The mode of a run, and what is promised of its lines and its status.
use Rattle.std.proofs.Common.{◌≡◌, ◌⊎◌, ℕ, List, ◌∷◌, [], length, refl, sym, ◌∙◌, ap, arith}
use Rattle.std.specs.Prelude.{Option, String}
use Rattle.std.specs.declared.alloc.Global.{Global}
use Rattle.ov_base.specs.declared.mode.Mode.{Mode}
use Rattle.ov_base.specs.declared.mode.Mode.TheVariants.{Full, Delta}
use Rattle.ov_history.specs.Plain.{PlainHistory}
use Rattle.ov_base.specs.Modes.{mode_word}
use Rattle.ov_answering.specs.Ending.{Concluded}
use Rattle.ov_answering.proofs.Concluding.{complete, exact, is_bad, is_disk, is_done, is_long, is_memory, is_read, is_write, neither}
use Rattle.ov_run.specs.Running.{IsDecided, PrintsAs}
use Rattle.ov_run.specs.Words.{IsRun}

-- ---- the mode

second_length : List (List ℕ) → ℕ
second_length [] = 0
second_length (x ∷ []) = 0
second_length (x ∷ y ∷ texts) = length y

apart : (m n : ℕ) → m ≡ 4 → n ≡ 5 → m ≡ n → ⊥
apart m n four five same = omega arith

-- words ask for a run in one mode
pub one_mode : (a b : Mode) (words : List (String Global)) → IsRun a words → IsRun b words → a ≡ b
unfolding second_length
one_mode Full Full words p q = refl
one_mode Delta Delta words p q = refl
one_mode Full Delta words p q = absurd (apart (length (mode_word Full)) (length (mode_word Delta)) refl refl (ap second_length (sym p ∙ q)))
one_mode Delta Full words p q = absurd (apart (length (mode_word Full)) (length (mode_word Delta)) refl refl (ap second_length (sym q ∙ p)))

-- ---- what is printed

pub prints_as : (h : PlainHistory) (text : List ℕ) (old new : Option (List ℕ)) (status : ℕ) → Concluded h text old new status → PrintsAs h text status old new
prints_as h text old new status so = record {
  done = λ e. is_done h text old new status e so;
  bad_line = λ e. is_bad h text old new status e so;
  long = λ e. is_long h text old new status e so;
  disk = λ e. is_disk h text old new status e so;
  read = λ e. is_read h text old new status e so;
  memory = λ e. is_memory h text old new status e so;
  write = λ e. is_write h text old new status e so;
}

pub decided : (h : PlainHistory) (text : List ℕ) (old new : Option (List ℕ)) (status : ℕ) (keys script out disk : Type 0)
    → (status ≡ 4 → disk) → (status ≡ 5 → keys ⊎ script) → (status ≡ 6 → out) → Concluded h text old new status → IsDecided text status keys script out disk
decided h text old new status keys script out disk call read write so = record {
  exact = exact h text old new status so;
  complete = λ no_keys no_script no_out no_disk commands ending reads.
      complete status _ (exact h text old new status so commands ending reads) (λ four. no_disk (call four))
      (λ five. neither keys script no_keys no_script (read five)) (λ six. no_out (write six));
}
