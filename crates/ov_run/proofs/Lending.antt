-- What a run over a loan of the disk promises is promised of the disk.
use Rattle.std.proofs.Common.{MutBor, ◌≡◌, ◌⊎◌, ℕ, List, Option, Some, None}
use Rattle.std.specs.Prelude.{IfSome, String}
use Rattle.std.specs.declared.alloc.Global.{Global}
use Rattle.std.proofs.Common.{subst}
use Rattle.ov_base.specs.declared.mode.Mode.{Mode}
use Rattle.ov_disk.specs.Disk.{Image, Told}
use Rattle.ov_disk.specs.Tells.{DiskTells}
use Rattle.ov_history.specs.Masters.{Masters}
use Rattle.ov_history.specs.Plain.{PlainHistory}
use Rattle.ov_machine.specs.Machine.{AreMasters}
use Rattle.ov_answering.specs.Ending.{EndsAs, JudgesImage, LeavesAsAtStart}
use Rattle.ov_answering.specs.Lasting.{Endures, Lasts, OpensAs, Survives}
use Rattle.ov_answering.proofs.Loans.{lent_disk, lent_image, lent_lasts_as, lent_leaves, lent_opens}
use Rattle.ov_run.specs.Running.{ForImage, FromEach, IsDecided, PrintsAs, RunsWell}
use Rattle.ov_run.specs.Words.{IsRun}
use Rattle.ov_run.proofs.Promises.{decided, one_mode, prints_as}

-- what holds of the image in the mode that was found
for_image : (image : Option Image) (words : List (String Global)) (keys : Option (List ℕ)) (mode : Mode) → IsRun mode words → (P Q : Masters → Mode → Image → Type 0)
    → IfSome keys (λ file. (k : Masters) → AreMasters file k → Told image (P k mode)) → ((k : Masters) (i : Image) → P k mode i → Q k mode i) → ForImage image words keys Q
for_image image words keys mode is P Q holds then other asked = by_cases keys holds where
  by_cases : (keys : Option (List ℕ)) → IfSome keys (λ file. (k : Masters) → AreMasters file k → Told image (P k mode))
      → IfSome keys (λ file. (k : Masters) → AreMasters file k → Told image (Q k other))
  by_cases None holds = tt
  by_cases (Some file) holds = λ k are i told.
      subst (λ m. Q k m i) (one_mode mode other words is asked) (then k i (holds k are i told))

-- what holds of each history as which the disk opens, together
pub runs_well : {D : Type 0} (tells : DiskTells D) (disk : D) (words : List (String Global))
    (keys input : Option (List ℕ)) (P Q R F S : Masters → PlainHistory → List ℕ → Type 0)
    → FromEach tells disk words keys input P → FromEach tells disk words keys input Q
    → FromEach tells disk words keys input R → FromEach tells disk words keys input F → FromEach tells disk words keys input S
    → FromEach tells disk words keys input (λ k p text. RunsWell (P k p text) (Q k p text) (R k p text) (F k p text) (S k p text))
runs_well tells disk words None input P Q R F S printed decided paced traced survives mode is = tt
runs_well tells disk words (Some file) None P Q R F S printed decided paced traced survives mode is = tt
runs_well tells disk words (Some file) (Some text) P Q R F S printed decided paced traced survives mode is = λ k p are opens. record {
  printed = printed mode is k p are opens;
  decided = decided mode is k p are opens;
  paced = paced mode is k p are opens;
  traced = traced mode is k p are opens;
  survives = survives mode is k p are opens;
}

-- This is how a loan shows its disk.
module _ {D : Type 0} (tells : DiskTells D) where
  pub lent_survives : (k : Masters) (p : PlainHistory) (text : List ℕ) (first last : MutBor D) (old new : Option (List ℕ))
      → Survives (lent_disk tells) k p text first last old new
      → Survives tells k p text first.now last.now old new
  lent_survives k p text first last old new s = record { any_moment = lent_leaves tells first last _ s.any_moment; at_exit = s.at_exit }

  pub lent_lasts : (k : Masters) (p : PlainHistory) (text : List ℕ) (last : MutBor D) → Lasts (lent_disk tells) k p text last
      → Lasts tells k p text last.now
  lent_lasts k p text last l =
      record { commands = l.commands; whole = l.whole; lasts = lent_lasts_as tells k p _ last l.lasts }

  -- from what holds in the mode that was found
  from_each : (loan : MutBor D) (words : List (String Global)) (keys input : Option (List ℕ)) (mode : Mode) → IsRun mode words
      → (E Q : Masters → PlainHistory → List ℕ → Type 0)
      → IfSome keys (λ file. IfSome input (λ text. (k : Masters) (p : PlainHistory) → AreMasters file k
      → OpensAs (lent_disk tells) k mode p loan → E k p text))
      → ((k : Masters) (p : PlainHistory) (text : List ℕ) → E k p text → Q k p text)
      → FromEach tells loan.now words keys input Q
  from_each loan words keys input mode is E Q holds then other asked = by_cases keys input holds where
    by_cases : (keys input : Option (List ℕ)) → IfSome keys (λ file. IfSome input (λ text. (k : Masters) (p : PlainHistory) → AreMasters file k
        → OpensAs (lent_disk tells) k mode p loan → E k p text))
        → IfSome keys (λ file. IfSome input (λ text. (k : Masters) (p : PlainHistory) → AreMasters file k → OpensAs tells k other p loan.now → Q k p text))
    by_cases None input holds = tt
    by_cases (Some file) None holds = tt
    by_cases (Some file) (Some text) holds = λ k p are opens.
        then k p text
        (holds k p are (lent_opens tells k mode p loan (subst (λ m. OpensAs tells k m p loan.now) (one_mode other mode words asked is) opens)))

  -- what holds over the loan and doesn't speak of the disk
  pub lent_each : (loan : MutBor D) (words : List (String Global)) (keys input : Option (List ℕ)) (mode : Mode) → IsRun mode words
      → (Q : Masters → PlainHistory → List ℕ → Type 0)
      → IfSome keys (λ file. IfSome input (λ text. (k : Masters) (p : PlainHistory) → AreMasters file k
      → OpensAs (lent_disk tells) k mode p loan → Q k p text))
      → FromEach tells loan.now words keys input Q
  lent_each loan words keys input mode is Q holds = from_each loan words keys input mode is Q Q holds (λ k p text q. q)

  -- The run ended so over the loan, and this is the disk that came back.
  module _ (first last : MutBor D) (final : D) (back : last.now ≡ final) (words : List (String Global)) (keys input old new : Option (List ℕ)) (status : ℕ)
      (mode : Mode) (is : IsRun mode words)
      (ends : IfSome keys (λ file. IfSome input (λ text. (k : Masters) (p : PlainHistory) → AreMasters file k
      → OpensAs (lent_disk tells) k mode p first
      → EndsAs (lent_disk tells) k p text first last old new status (Unit {0})))) where
    abbrev E : Masters → PlainHistory → List ℕ → Type 0
    E k p text = EndsAs (lent_disk tells) k p text first last old new status (Unit {0})

    pub run_prints : FromEach tells first.now words keys input (λ k p text. PrintsAs p text status old new)
    run_prints =
        from_each first words keys input mode is E (λ k p text. PrintsAs p text status old new) ends
        (λ k p text e. prints_as p text old new status e.concluded)

    pub run_decides : (key_faults script out disk : Type 0)
        → (status ≡ 4 → disk) → (status ≡ 5 → key_faults ⊎ script) → (status ≡ 6 → out)
        → FromEach tells first.now words keys input (λ k p text. IsDecided text status key_faults script out disk)
    run_decides key_faults script out disk call read write =
        from_each first words keys input mode is E (λ k p text. IsDecided text status key_faults script out disk) ends
        (λ k p text e. decided p text old new status key_faults script out disk call read write e.concluded)

    pub run_endures : FromEach tells first.now words keys input
        (λ k p text. Endures tells k p text status first.now final old new)
    run_endures =
        from_each first words keys input mode is E (λ k p text. Endures tells k p text status first.now final old new) ends
        (λ k p text e. subst (λ d. Endures tells k p text status first.now d old new) back (record {
          survives = lent_survives k p text first last old new (e.survives tt);
          lasts = λ zero. lent_lasts k p text last (e.lasts tt zero);
        }))

    pub run_image : (image : Option Image) (U : Type 0)
        → IfSome keys (λ file. (k : Masters) → AreMasters file k → Told image (λ i. JudgesImage k mode i status old new U
        (LeavesAsAtStart (lent_disk tells) first last)))
        → ForImage image words keys (λ k mode i. JudgesImage k mode i status old new U (LeavesAsAtStart tells first.now final))
    run_image image U holds =
        for_image image words keys mode is
        (λ k m i. JudgesImage k m i status old new U
        (LeavesAsAtStart (lent_disk tells) first last))
        (λ k m i. JudgesImage k m i status old new U (LeavesAsAtStart tells first.now final)) holds
        (λ k i judged. subst (λ d. JudgesImage k mode i status old new U (LeavesAsAtStart tells first.now d)) back
        (lent_image tells k mode i status old new U first last judged))
