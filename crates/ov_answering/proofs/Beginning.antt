-- A disk that is opened, or isn't, and what follows of a script that is answered over it.
use Rattle.std.proofs.Common.{◌≡◌, ◌⊎◌, inl, inr, ℕ, List, [], ◌∷◌, refl, sym, ◌∙◌, ap, subst, arith, Option, Some, None, false}
use Rattle.std.specs.Prelude.{IfSome, IsSomeAnd, is_some}
use Rattle.std.proofs.KnownBytes.{Appends-nil}
use Rattle.ov_base.specs.declared.mode.Mode.{Mode}
use Rattle.ov_disk.specs.Disk.{Image, StaysTold, Told}
use Rattle.ov_disk.specs.Moments.{LeavesOnly}
use Rattle.ov_disk.proofs.Runs.{then_on, weaker}
use Rattle.ov_disk.specs.Tells.{DiskTells}
use Rattle.ov_images.specs.Images.{IsImageOf, Keeps, Opens, keys_of}
use Rattle.ov_history.specs.Masters.{Masters}
use Rattle.ov_history.specs.Plain.{PlainHistory, history_of}
use Rattle.ov_history.specs.Refusals.{IsLegal}
use Rattle.ov_history.specs.Kept.{AreKept, IsKept}
use Rattle.ov_history.specs.Sealed.{KeepsBytes, SealedHistory, catalogue_of, stored_of}
use Rattle.ov_history.specs.Sealing.{IsSealedAs}
use Rattle.ov_history.proofs.Agreeing.{right_keeps, right_shows}
use Rattle.ov_history.proofs.Since.{sealed_since}
use Rattle.ov_store.specs.Beginning.{IsNew, LeavesHistory}
use Rattle.ov_store.specs.Opened.{Opened, Serves}
use Rattle.ov_store.specs.declared.fault.BeginFault.{BeginFault}
use Rattle.ov_store.specs.declared.fault.BeginFault.TheVariants.{Disk, NotAStore, Damaged, BaseDiffers, SurfaceDiffers, ModeDiffers, Memory}
use Rattle.ov_report.specs.Ends.{EndsIn, EndsOr}
use Rattle.ov_report.specs.Faults.{disk_line, fault_line, fault_status, memory_line}
use Rattle.ov_machine.specs.Disks.{Holds, StandsForPlain, TellsNothing}
use Rattle.ov_machine.specs.Machine.{KeptOn, StandsFor, opened_of}
use Rattle.ov_machine.proofs.Stays.{and_told}
use Rattle.ov_machine.proofs.Updating.{now_so}
use Rattle.ov_answering.specs.Ending.{EndsAs}
use Rattle.ov_answering.specs.Judging.{FindsPlain, Refuses}
use Rattle.ov_answering.specs.Lasting.{KeepsFirst, OpensAs, Survives}
use Rattle.ov_answering.specs.Printing.{DiskFault, OutOfMemory}
use Rattle.ov_answering.proofs.Concluding.{at_once, disk_printed, memory_printed, none_read}
use Rattle.ov_answering.proofs.Surviving.{answered_error, front_put, not_zero}

-- ---- why a disk doesn't open

-- the line on such a fault
pub ends_in_fault : (fault : BeginFault) (old new : Option (List ℕ)) (status : ℕ) → (fault ≡ Disk) ⊎ (fault ≡ Memory)
    → EndsOr (fault_line fault) (fault_status fault) old new status → EndsIn disk_line 4 old new status ⊎ EndsIn memory_line 7 old new status
ends_in_fault fault old new status (inl is) ends = subst (λ (f : BeginFault). EndsOr (fault_line f) (fault_status f) old new status) is ends
ends_in_fault fault old new status (inr is) ends = inr (either (subst (λ (f : BeginFault). EndsOr (fault_line f) (fault_status f) old new status) is ends)) where
  either : EndsIn memory_line 7 old new status ⊎ EndsIn memory_line 7 old new status → EndsIn memory_line 7 old new status
  either (inl e) = e
  either (inr e) = e

-- ---- the status of a refusal

pub disk_is : (fault : BeginFault) → fault_status fault ≡ 4 → fault ≡ Disk
disk_is Disk e = refl
disk_is Memory e = absurd (omega arith)
disk_is NotAStore e = absurd (omega arith)
disk_is (Damaged area place) e = absurd (omega arith)
disk_is (BaseDiffers stored given) e = absurd (omega arith)
disk_is (SurfaceDiffers stored given) e = absurd (omega arith)
disk_is (ModeDiffers stored given) e = absurd (omega arith)

pub disk_said : (fault : BeginFault) (line : List ℕ) (old new : Option (List ℕ)) (status : ℕ) → EndsOr line (fault_status fault) old new status → status ≡ 4 → fault ≡ Disk
disk_said fault line old new status (inl (inl q)) four = disk_is fault (sym q.0 ∙ four)
disk_said fault line old new status (inl (inr q)) four = let six : status ≡ 6 = q.0 in absurd (omega arith)
disk_said fault line old new status (inr (inl q)) four = let seven : status ≡ 7 = q.0 in absurd (omega arith)
disk_said fault line old new status (inr (inr q)) four = let six : status ≡ 6 = q.0 in absurd (omega arith)

-- ---- histories that are right

-- the mode of one is that of its plain history
pub right_mode : (k : Masters) (p : PlainHistory) (g : SealedHistory) (mode : Mode)
    → IsSealedAs k p g → p.mode ≡ mode → g.mode ≡ mode
right_mode k p g mode right is = ap (λ (x : SealedHistory). x.mode) right ∙ is

-- a disk that opens for a history has an image that does
pub opens_image : {D : Type 0} (tells : DiskTells D) (k : Masters) (mode : Mode) (p : PlainHistory)
    (disk : D) (opens : OpensAs tells k mode p disk) → Opens k mode opens.image
opens_image tells k mode p disk opens =
    let (g, right, image) = opens.stands in (p, g, (opens.legal, right), opens.mode_is, image)

-- and each image that a crash may leave of it stands for the history
pub opens_plain : {D : Type 0} (tells : DiskTells D) (k : Masters) (mode : Mode) (p : PlainHistory)
    (disk : D) → OpensAs tells k mode p disk
    → (c : Image) → tells.may_leave disk c → StandsForPlain k p p c
opens_plain tells k mode p disk opens c left =
    let (g, right, image) = opens.stands in
    (g, sealed_since k p g right, subst (IsImageOf (keys_of k) g) (sym (opens.settled c left)) image)

-- ---- scripts

module _ {D : Type 0} (tells : DiskTells D) (k : Masters) (p : PlainHistory) where
  -- before the first command each image stands for the history
  pub first_of_all : (text : List ℕ) (c : Image) → StandsForPlain k p p c → KeepsFirst k p text c
  first_of_all text c stands = ([], none_read text, stands)

  -- an error line and nothing else was put
  pub survives_alone : (text error : List ℕ) (code : ℕ) (first last : D) (old new : Option (List ℕ)) (status : ℕ)
      → EndsIn (101 ∷ 114 ∷ error) code old new status → LeavesOnly tells first last (StandsForPlain k p p)
      → Survives tells k p text first last old new
  survives_alone text error code first last old new status ends leaves = record {
    any_moment = weaker tells first last (StandsForPlain k p p) (KeepsFirst k p text) leaves (first_of_all text);
    at_exit = (
      [],
      none_read text,
      answered_error p text [] old old new (Appends-nil old) error (front_put (101 ∷ 114 ∷ error) code old new status ends),
      λ c left. inl (now_so tells first last (StandsForPlain k p p) leaves c left),
    );
  }

  -- the disk didn't open
  pub ends_refused : (text : List ℕ) (first last : D) (old new : Option (List ℕ)) (status : ℕ)
      → EndsIn disk_line 4 old new status ⊎ EndsIn memory_line 7 old new status → LeavesOnly tells first last (StandsForPlain k p p)
      → EndsAs tells k p text first last old new status (Unit {0})
  ends_refused text first last old new status (inl e) leaves = record {
    concluded = at_once p text disk_line DiskFault old new status (disk_printed p text) e;
    survives = λ _. survives_alone text _ 4 first last old new status e leaves;
    lasts = λ _ zero. absurd (not_zero disk_line 4 old new status e (λ z. omega arith) zero);
  }
  ends_refused text first last old new status (inr e) leaves = record {
    concluded = at_once p text memory_line OutOfMemory old new status (memory_printed p text) e;
    survives = λ _. survives_alone text _ 7 first last old new status e leaves;
    lasts = λ _ zero. absurd (not_zero memory_line 7 old new status e (λ z. omega arith) zero);
  }

  -- the disk opened, and the script was answered over it
  module _ (m : KeptOn D) (masters : m.kept.masters ≡ k) (sound : m.failed ≡ false)
      (g : SealedHistory) (right : IsSealedAs k p g) (serves : Serves tells g (opened_of m)) where
    begun_stands : (i : Image) × (tells.reads m.disk ≡ Some i) → IsLegal (history_of p)
        → StandsFor m.kept p
    begun_stands (i, read) legal =
        subst (λ (x : Masters). IsKept x p m.kept.catalogue × IsSomeAnd m.kept.stored (AreKept x p))
        (sym masters) (
          (
            legal,
            serves.catalogue.1 ∙ ap (λ (x : Masters). catalogue_of x.surface g) masters
                ∙ right_shows k p g legal right,
          ),
          and_told m.kept.stored (λ bytes. KeepsBytes m.kept.masters.surface bytes g) (AreKept k p)
              (serves.told ∙ ap is_some read) serves.bytes
              (λ bytes are. are ∙ ap (λ (x : Masters). stored_of x.surface g) masters
              ∙ right_keeps k p g legal right),
        )

    pub begun_holds : (i : Image) × (tells.reads m.disk ≡ Some i) → Holds tells k p p m.disk
    begun_holds told = record {
      told = told;
      kept = g;
      right = right;
      since = sealed_since k p g right;
      each = λ c left. subst (λ (x : Masters). Keeps (keys_of x) g c) masters (serves.disk sound told.0 told.1 c left);
    }

    pub ends_begun : (text : List ℕ) (first last : D) (old new : Option (List ℕ)) (status : ℕ) → (i : Image) × (tells.reads m.disk ≡ Some i)
        → LeavesOnly tells first m.disk (StandsForPlain k p p)
        → EndsAs tells k p text m.disk last old new status (Holds tells k p p m.disk)
        → EndsAs tells k p text first last old new status (Unit {0})
    ends_begun text first last old new status told leaves ends =
        let holds = begun_holds told in
        let after = ends.survives holds in record {
          concluded = ends.concluded;
          survives = λ _. record {
            any_moment = then_on tells first m.disk last (KeepsFirst k p text) (KeepsFirst k p text)
                (weaker tells first m.disk (StandsForPlain k p p) (KeepsFirst k p text) leaves (first_of_all text))
                after.any_moment (λ c keeps. keeps);
            at_exit = after.at_exit;
          };
          lasts = λ _. ends.lasts holds;
        }

-- ---- from the call that opens the disk

-- a disk that is the same tells its bytes
reads_on : {D : Type 0} (tells : DiskTells D) (one other : D) → other ≡ one
    → (i : Image) × (tells.reads one ≡ Some i) → (i : Image) × (tells.reads other ≡ Some i)
reads_on tells one other same (i, read) = (i, ap tells.reads same ∙ read)

-- from a disk that tells its bytes what is kept stands for a history
pub tells_nothing : {D : Type 0} (tells : DiskTells D) (k : Masters) (mode : Mode) (first : D)
    (m : KeptOn D) (s : Opened D) → opened_of m ≡ s → m.kept.masters ≡ k → s.failed ≡ false
    → Told (tells.reads first) (λ i. FindsPlain tells k mode i s)
    × StaysTold (tells.reads first) (tells.reads s.disk)
    → ((p : PlainHistory) → StandsFor m.kept p → ⊥) → TellsNothing (tells.reads first)
tells_nothing {D} tells k mode first m s is masters sound found none =
    λ i read.
    let f = found.0 i read in
    let (p, g, (legal, right), mode_is, image) = f.some in
    let serves = subst (λ (o : Opened D). Serves tells g o) (sym is)
    (f.each g (right_mode k p g mode right mode_is) image) in
    none p
    (begun_stands tells k p m masters
    (ap (λ (o : Opened D). o.failed) is ∙ sound) g right serves
    (reads_on tells s.disk m.disk (ap (λ (o : Opened D). o.disk) is) (found.1 i read)) legal)

module _ {D : Type 0} (tells : DiskTells D) (k : Masters) (mode : Mode) (p : PlainHistory)
    (first : D) (opens : OpensAs tells k mode p first) where
  -- what was opened stands for the history
  module _ (m : KeptOn D) (s : Opened D) (is : opened_of m ≡ s) (masters : m.kept.masters ≡ k) (fresh : IsNew (keys_of k) mode s)
      (found : Told (tells.reads first) (λ i. FindsPlain tells k mode i s) × StaysTold (tells.reads first) (tells.reads s.disk)) where
    pub serves : Serves tells opens.stands.0 (opened_of m)
    serves =
        subst (λ (o : Opened D). Serves tells opens.stands.0 o) (sym is)
        ((found.0 opens.image opens.told).each opens.stands.0
        (right_mode k p opens.stands.0 mode opens.stands.1 opens.mode_is) opens.stands.2)

    pub sound : m.failed ≡ false
    sound = ap (λ (o : Opened D). o.failed) is ∙ fresh.1

    pub over_stands : StandsFor m.kept p
    over_stands =
        begun_stands tells k p m masters sound opens.stands.0 opens.stands.1 serves
        (reads_on tells s.disk m.disk (ap (λ (o : Opened D). o.disk) is)
        (found.1 opens.image opens.told))
        opens.legal

module _ {D : Type 0} (tells : DiskTells D) (k : Masters) (mode : Mode) (p : PlainHistory)
    (first : D) (opens : OpensAs tells k mode p first) (input old new : Option (List ℕ))
    (status : ℕ) where
  pub leaves_plain : (last : D) → LeavesHistory tells (keys_of k) mode first last → LeavesOnly tells first last (StandsForPlain k p p)
  leaves_plain last any =
      weaker tells first last (IsImageOf (keys_of k) opens.stands.0) (StandsForPlain k p p)
      (any opens.image opens.told opens.settled opens.stands.0
      (right_mode k p opens.stands.0 mode opens.stands.1 opens.mode_is) opens.stands.2)
      (λ c image. (opens.stands.0, sealed_since k p opens.stands.0 opens.stands.1, image))

  pub over_refused : (last : D) (fault : BeginFault) → Told (tells.reads first) (λ i. Refuses k mode i fault)
      → EndsOr (fault_line fault) (fault_status fault) old new status → LeavesHistory tells (keys_of k) mode first last
      → IfSome input (λ text. EndsAs tells k p text first last old new status (Unit {0}))
  over_refused last fault refuses ends any = by_text input where
    said : EndsIn disk_line 4 old new status ⊎ EndsIn memory_line 7 old new status
    said = ends_in_fault fault old new status ((refuses opens.image opens.told).opens (opens_image tells k mode p first opens)) ends

    by_text : (input : Option (List ℕ)) → IfSome input (λ text. EndsAs tells k p text first last old new status (Unit {0}))
    by_text None = tt
    by_text (Some text) = ends_refused tells k p text first last old new status said (leaves_plain last any)

  module _ (m : KeptOn D) (s : Opened D) (is : opened_of m ≡ s) (masters : m.kept.masters ≡ k) (fresh : IsNew (keys_of k) mode s)
      (found : Told (tells.reads first) (λ i. FindsPlain tells k mode i s) × StaysTold (tells.reads first) (tells.reads s.disk))
      (any : LeavesHistory tells (keys_of k) mode first s.disk) where
    pub told : (i : Image) × (tells.reads m.disk ≡ Some i)
    told = subst (λ (o : Opened D). (i : Image) × (tells.reads o.disk ≡ Some i)) (sym is) (found.1 opens.image opens.told)

    pub leaves : LeavesOnly tells first m.disk (StandsForPlain k p p)
    leaves = subst (λ (o : Opened D). LeavesOnly tells first o.disk (StandsForPlain k p p)) (sym is) (leaves_plain s.disk any)

    pub over_begun : (last : D)
        → ((q : PlainHistory) → StandsFor m.kept q → IfSome input (λ text. EndsAs tells m.kept.masters q text m.disk last old new status
        (Holds tells m.kept.masters q q m.disk)))
        → IfSome input (λ text. EndsAs tells k p text first last old new status (Unit {0}))
    over_begun last ends = by_text input (ends p (over_stands tells k mode p first opens m s is masters fresh found)) where
      by_text : (input : Option (List ℕ)) → IfSome input (λ text. EndsAs tells m.kept.masters p text m.disk last old new status
          (Holds tells m.kept.masters p p m.disk)) → IfSome input (λ text. EndsAs tells k p text first last old new status (Unit {0}))
      by_text None e = tt
      by_text (Some text) e =
          ends_begun tells k p m masters (sound tells k mode p first opens m s is masters fresh found)
          opens.stands.0 opens.stands.1 (serves tells k mode p first opens m s is masters fresh found) text first last old new status told leaves
          (subst (λ (x : Masters). EndsAs tells x p text m.disk last old new status (Holds tells x p p m.disk)) masters e)
