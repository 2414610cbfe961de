-- What a load over a loan of the disk promises is promised of the disk.
use Rattle.std.proofs.Common.{MutBor, ◌≡◌, ℕ, List, Option, Some, None, subst}
use Rattle.std.specs.Prelude.{IfSome, String}
use Rattle.std.specs.declared.alloc.Global.{Global}
use Rattle.ov_disk.specs.Disk.{Image, Told}
use Rattle.ov_disk.specs.Moments.{LeavesOnly}
use Rattle.ov_disk.specs.Tells.{DiskTells}
use Rattle.ov_history.specs.Masters.{Masters}
use Rattle.ov_history.specs.Plain.{PlainHistory}
use Rattle.ov_machine.specs.Machine.{AreMasters}
use Rattle.ov_answering.specs.Ending.{JudgesImage, LeavesAsAtStart}
use Rattle.ov_answering.specs.Lasting.{LastsAs, OpensAs}
use Rattle.ov_answering.proofs.Loans.{lent_disk, lent_image, lent_lasts_as, lent_leaves, lent_opens}
use Rattle.ov_load.specs.LoadEnding.{LoadEndsAs, LoadTracesAs}
use Rattle.ov_load.specs.LoadWords.{IsLoad}
use Rattle.ov_load.specs.Loading.{EndsLoad, ForLoad, ForLoadImage, IsComplete, KeepsSome, LoadsWell, after_load}
use Rattle.ov_load.specs.declared.load_words.Load.{Load}
use Rattle.ov_load.proofs.Asking.{one_load}
use Rattle.ov_load.proofs.LoadEnds.{completes}
use Rattle.ov_load.proofs.LoadTracing.{sent_lent}

module _ {D : Type 0} (tells : DiskTells D) (first last : MutBor D) (final : D)
    (back : last.now ≡ final) (words : List (String Global))
    (keys old new t_old t_new : Option (List ℕ)) (status : ℕ) (load : Load)
    (is : IsLoad load words) where
  abbrev E : Masters → PlainHistory → Load → Type 0
  E k h asked =
      LoadEndsAs (lent_disk tells) k h asked first last old new t_old t_new status (Unit {0})

  abbrev W : Type 0 → Type 0 → Type 0 → Masters → PlainHistory → Load → Type 0
  W key_faults out disk k h asked =
      LoadsWell (EndsLoad asked h old new status) (IsComplete status key_faults out disk)
      (LoadTracesAs tells k h asked final t_old t_new status (Unit {0}))
      (LeavesOnly tells first.now final (KeepsSome k h asked))
      (status ≡ 0 → LastsAs tells k h (after_load h asked) final)

  well : (key_faults out disk : Type 0) → (status ≡ 4 → disk) → (status ≡ 5 → key_faults) → (status ≡ 6 → out)
      → (k : Masters) (h : PlainHistory) → E k h load → W key_faults out disk k h load
  well key_faults out disk call read write k h e = record {
    printed = e.printed;
    complete = completes load h old new status key_faults out disk call read write e.printed;
    traced = subst (λ d. LoadTracesAs tells k h load d t_old t_new status (Unit {0})) back
        (sent_lent tells k h load last t_old t_new status (Unit {0}) e.traced);
    survives = subst (λ d. LeavesOnly tells first.now d (KeepsSome k h load)) back
        (lent_leaves tells first last (KeepsSome k h load) (e.survives tt));
    lasts = λ zero. subst (λ d. LastsAs tells k h (after_load h load) d) back (lent_lasts_as tells k h (after_load h load) last (e.lasts tt zero));
  }

  pub load_well : (key_faults out disk : Type 0) → (status ≡ 4 → disk) → (status ≡ 5 → key_faults) → (status ≡ 6 → out)
      → IfSome keys (λ file. (k : Masters) (h : PlainHistory) → AreMasters file k
      → OpensAs (lent_disk tells) k load.mode h first → E k h load)
      → ForLoad tells first.now words keys (W key_faults out disk)
  load_well key_faults out disk call read write holds other asked = by_cases keys holds where
    by_cases : (keys : Option (List ℕ)) → IfSome keys (λ file. (k : Masters) (h : PlainHistory) → AreMasters file k
        → OpensAs (lent_disk tells) k load.mode h first → E k h load)
        → IfSome keys (λ file. (k : Masters) (h : PlainHistory) → AreMasters file k
        → OpensAs tells k other.mode h first.now → W key_faults out disk k h other)
    by_cases None holds = tt
    by_cases (Some file) holds = λ k h are opens.
        let opens_lent = lent_opens tells k load.mode h first
        (subst (λ (l : Load). OpensAs tells k l.mode h first.now) (one_load other load words asked is) opens) in
        subst (λ (l : Load). W key_faults out disk k h l) (one_load load other words is asked)
        (well key_faults out disk call read write k h (holds k h are opens_lent))

  pub load_image : (image : Option Image) (U : Type 0)
      → IfSome keys (λ file. (k : Masters) → AreMasters file k → Told image (λ i. JudgesImage k load.mode i status old new U
      (LeavesAsAtStart (lent_disk tells) first last)))
      → ForLoadImage image words keys (λ k mode i. JudgesImage k mode i status old new U (LeavesAsAtStart tells first.now final))
  load_image image U holds other asked = by_cases keys holds where
    by_cases : (keys : Option (List ℕ)) → IfSome keys (λ file. (k : Masters) → AreMasters file k → Told image (λ i. JudgesImage k load.mode i status old new U
        (LeavesAsAtStart (lent_disk tells) first last)))
        → IfSome keys (λ file. (k : Masters) → AreMasters file k
        → Told image (λ i. JudgesImage k other.mode i status old new U (LeavesAsAtStart tells first.now final)))
    by_cases None holds = tt
    by_cases (Some file) holds = λ k are i told.
        subst (λ (l : Load). JudgesImage k l.mode i status old new U (LeavesAsAtStart tells first.now final))
        (one_load load other words is asked)
        (subst (λ d. JudgesImage k load.mode i status old new U (LeavesAsAtStart tells first.now d)) back
        (lent_image tells k load.mode i status old new U first last (holds k are i told)))
