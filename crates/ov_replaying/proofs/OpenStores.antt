-- A store that was opened stands for each history that is right and that its image keeps.
use Rattle.std.proofs.Common.{◌≡◌, ◌∙◌, Some, ap, false, inl, inr}
use Rattle.ov_answering.specs.Judging.{FindsPlain}
use Rattle.ov_answering.proofs.Beginning.{right_mode}
use Rattle.ov_base.specs.declared.mode.Mode.{Mode}
use Rattle.ov_disk.specs.Disk.{Image, Told}
use Rattle.ov_disk.specs.Tells.{DiskTells}
use Rattle.ov_history.specs.Masters.{Masters}
use Rattle.ov_history.specs.Sealed.{SealedHistory}
use Rattle.ov_history.specs.Texts.{BriefHistory}
use Rattle.ov_images.specs.Images.{IsImageOf, Keeps, Keys, keys_of}
use Rattle.ov_images.proofs.Keeping.{keeps_once}
use Rattle.ov_journal.specs.Standing.{IsUnborn}
use Rattle.ov_store.specs.Opened.{Opened}
use Rattle.ov_replaying.specs.Opening.{IsOpenOf}

-- an image keeps histories of one mode
pub mode_kept : (k : Keys) (g h : SealedHistory) (i : Image) → Keeps k g i → Keeps k h i
    → g.mode ≡ h.mode
mode_kept k g h i one other =
    ap (λ (b : BriefHistory). b.mode) (keeps_once k g h i one other).0

-- an image on which a store was begun keeps the history for which it stands
pub kept_born : (k : Keys) (g : SealedHistory) (i : Image) → (IsUnborn i.book → ⊥) → IsImageOf k g i
    → Keeps k g i
kept_born k g i born (inl none) = absurd (born none.0)
kept_born k g i born (inr keeps) = keeps

pub open_of : {D : Type 0} (tells : DiskTells D) (k : Masters) (mode : Mode) (first : D)
    (s : Opened D)
    → s.keys ≡ keys_of k → s.failed ≡ false
    → Told (tells.reads first) (λ i. IsUnborn i.book → ⊥)
    → Told (tells.reads first) (λ i. FindsPlain tells k mode i s)
    → Told (tells.reads first) (λ i. tells.reads s.disk ≡ Some i)
    → IsOpenOf tells k (tells.reads first) s
open_of tells k mode first s keys_are healthy born found same = record {
  keys_are = keys_are;
  healthy = healthy;
  opens = λ i read. (born i read, (mode, (found i read).some));
  each = λ i read p g right keeps.
      let finds = found i read in
      let other = finds.some in
      finds.each g
      (mode_kept (keys_of k) g other.1 i keeps
      (kept_born (keys_of k) other.1 i (born i read) other.4)
      ∙ right_mode k other.0 other.1 mode other.2.1 other.3)
      (inr keeps);
  same = same;
}
