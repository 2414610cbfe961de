-- What holds under the masters of a key file, by what was read of it.
use Rattle.std.proofs.Common.{◌≡◌, ℕ, List, sym, subst, arith, Option, Some, None}
use Rattle.std.specs.Prelude.{IfSome}
use Rattle.ov_base.specs.declared.mode.Mode.{Mode}
use Rattle.ov_disk.specs.Moments.{LeavesOnly}
use Rattle.ov_disk.proofs.Runs.{started}
use Rattle.ov_disk.specs.Tells.{DiskTells}
use Rattle.ov_keyfile.specs.KeyFile.{HasMasters, IsKeyFile}
use Rattle.ov_keyfile.proofs.Parts.{one_pair}
use Rattle.ov_history.specs.Masters.{Masters}
use Rattle.ov_history.specs.Plain.{PlainHistory}
use Rattle.ov_report.specs.Ends.{EndsIn}
use Rattle.ov_machine.specs.Disks.{StandsForPlain}
use Rattle.ov_machine.specs.Machine.{AreMasters}
use Rattle.ov_answering.specs.Ending.{EndsAs}
use Rattle.ov_answering.specs.Lasting.{OpensAs}
use Rattle.ov_answering.specs.Printing.{ReadFault, read_line}
use Rattle.ov_answering.proofs.Beginning.{opens_plain, survives_alone}
use Rattle.ov_answering.proofs.Concluding.{at_once, read_printed}
use Rattle.ov_answering.proofs.Surviving.{not_zero}

-- a key file has one pair of masters
same_masters : (file : List ℕ) (own k : Masters) → IsKeyFile file own.base own.surface → AreMasters file k → own ≡ k
same_masters file own k read are =
    let same = one_pair file own.base own.surface k.base k.surface read are in
    λ j. record { base = same.0 j; surface = same.1 j }

-- what holds under the masters that were read
pub from_read : (Opens : Masters → PlainHistory → Type 0) (Q : Masters → PlainHistory → List ℕ → Type 0) (own : Masters) (keys input : Option (List ℕ))
    → IfSome keys (λ file. IsKeyFile file own.base own.surface) → ((p : PlainHistory) → Opens own p → IfSome input (λ text. Q own p text))
    → IfSome keys (λ file. IfSome input (λ text. (k : Masters) (p : PlainHistory) → AreMasters file k → Opens k p → Q k p text))
from_read Opens Q own None input read holds = tt
from_read Opens Q own (Some file) None read holds = tt
from_read Opens Q own (Some file) (Some text) read holds = λ k p are opens.
    let same = same_masters file own k read are in
    subst (λ (x : Masters). Q x p text) same (holds p (subst (λ (x : Masters). Opens x p) (sym same) opens))

pub image_read : (P : Masters → Type 0) (own : Masters) (keys : Option (List ℕ)) → IfSome keys (λ file. IsKeyFile file own.base own.surface) → P own
    → IfSome keys (λ file. (k : Masters) → AreMasters file k → P k)
image_read P own None read holds = tt
image_read P own (Some file) read holds = λ k are. subst P (same_masters file own k read are) holds

-- what is claimed under the masters of a key file holds where no masters were read
pub from_none : (Q : Masters → PlainHistory → List ℕ → Type 0) (keys input : Option (List ℕ)) → IfSome keys (λ file. HasMasters file → ⊥)
    → IfSome keys (λ file. IfSome input (λ text. (k : Masters) (p : PlainHistory) → AreMasters file k → Q k p text))
from_none Q None input none = tt
from_none Q (Some file) None none = tt
from_none Q (Some file) (Some text) none = λ k p are. absurd (none (k.base, k.surface, are))

pub image_none : (P : Masters → Type 0) (keys : Option (List ℕ)) → IfSome keys (λ file. HasMasters file → ⊥)
    → IfSome keys (λ file. (k : Masters) → AreMasters file k → P k)
image_none P None none = tt
image_none P (Some file) none = λ k are. absurd (none (k.base, k.surface, are))

-- what holds whatever the masters are
pub from_all : (Q : Masters → PlainHistory → List ℕ → Type 0) (keys input : Option (List ℕ)) → ((k : Masters) (p : PlainHistory) (text : List ℕ) → Q k p text)
    → IfSome keys (λ file. IfSome input (λ text. (k : Masters) (p : PlainHistory) → AreMasters file k → Q k p text))
from_all Q None input all = tt
from_all Q (Some file) None all = tt
from_all Q (Some file) (Some text) all = λ k p are. all k p text

pub image_all : (P : Masters → Type 0) (keys : Option (List ℕ)) → ((k : Masters) → P k) → IfSome keys (λ file. (k : Masters) → AreMasters file k → P k)
image_all P None all = tt
image_all P (Some file) all = λ k are. all k

-- the key file couldn't be read, and the disk wasn't touched
pub ends_untouched : {D : Type 0} (tells : DiskTells D) (k : Masters) (mode : Mode) (p : PlainHistory) (text : List ℕ) (disk : D)
    (old new : Option (List ℕ)) (status : ℕ) → EndsIn read_line 5 old new status → OpensAs tells k mode p disk
    → EndsAs tells k p text disk disk old new status (Unit {0})
ends_untouched tells k mode p text disk old new status e opens =
    let leaves : LeavesOnly tells disk disk (StandsForPlain k p p) =
    started tells disk (StandsForPlain k p p) (opens_plain tells k mode p disk opens) in record {
      concluded = at_once p text read_line ReadFault old new status (read_printed p text) e;
      survives = λ _. survives_alone tells k p text _ 5 disk disk old new status e leaves;
      lasts = λ _ zero. absurd (not_zero read_line 5 old new status e (λ z. omega arith) zero);
    }
