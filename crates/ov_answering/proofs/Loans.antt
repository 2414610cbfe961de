-- What is said of a disk behind a loan is said of the disk.
use Rattle.std.proofs.Common.{MutBor, ℕ, List, Option}
use Rattle.ov_base.specs.declared.mode.Mode.{Mode}
use Rattle.ov_disk.specs.Disk.{Image}
use Rattle.ov_disk.specs.Moments.{LeavesOnly}
use Rattle.ov_disk.specs.Tells.{DiskTells}
use Rattle.ov_history.specs.Masters.{Masters}
use Rattle.ov_history.specs.Plain.{PlainHistory}
use Rattle.ov_answering.specs.Ending.{JudgesImage, LeavesAsAtStart}
use Rattle.ov_answering.specs.Lasting.{LastsAs, OpensAs}

-- what a disk behind a loan tells
abbrev pub lent_disk : {D : Type 0} → DiskTells D → DiskTells (MutBor D)
lent_disk tells = record {
  reads = λ d. tells.reads d.now;
  may_leave = λ d. tells.may_leave d.now;
  moment = λ d. tells.moment d.now;
  left_since = λ d. tells.left_since d.now;
  faults = λ d. tells.faults d.now;
  borrow = λ d. d.ghost_name;
  counts_now = λ d. tells.counts_now d.now;
  only_now = λ d. tells.only_now d.now;
  reads_one = λ d. tells.reads_one d.now;
}

module _ {D : Type 0} (tells : DiskTells D) where
  pub lent_opens : (k : Masters) (mode : Mode) (p : PlainHistory) (loan : MutBor D) → OpensAs tells k mode p loan.now
      → OpensAs (lent_disk tells) k mode p loan
  lent_opens k mode p loan o =
      record { image = o.image; told = o.told; settled = o.settled; legal = o.legal; mode_is = o.mode_is; stands = o.stands }

  pub lent_lasts_as : (k : Masters) (start p : PlainHistory) (last : MutBor D)
      → LastsAs (lent_disk tells) k start p last → LastsAs tells k start p last.now
  lent_lasts_as k start p last l = record {
    image = l.image;
    told = l.told;
    reads_it = l.reads_it;
    leaves_it = l.leaves_it;
    tokens_read = l.tokens_read;
    tokens_left = l.tokens_left;
  }

  pub lent_leaves : (first last : MutBor D) (P : Image → Type 0) → LeavesOnly (lent_disk tells) first last P
      → LeavesOnly tells first.now last.now P
  lent_leaves first last P leaves = record { later = leaves.later; each = leaves.each; before = leaves.before }

  pub lent_image : (k : Masters) (mode : Mode) (i : Image) (status : ℕ) (old new : Option (List ℕ)) (U : Type 0) (first last : MutBor D)
      → JudgesImage k mode i status old new U (LeavesAsAtStart (lent_disk tells) first last)
      → JudgesImage k mode i status old new U (LeavesAsAtStart tells first.now last.now)
  lent_image k mode i status old new U first last j = record {
    refused = j.refused;
    opened = j.opened;
    ends = j.ends;
    unread = j.unread;
    unwritten = λ none. lent_leaves first last _ (j.unwritten none);
  }
