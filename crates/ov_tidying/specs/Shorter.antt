-- What the new disk stands for.
use Rattle.std.specs.Prelude.{◌≡◌, ◌⊎◌, ℕ, List, Some}
use Rattle.ov_disk.specs.Disk.{Image, Only, Told}
use Rattle.ov_disk.specs.Moments.{LeavesOnly}
use Rattle.ov_disk.specs.Tells.{DiskTells}
use Rattle.ov_history.specs.Fading.{AgreeButGone}
use Rattle.ov_history.specs.FadingLaws.{IsRight}
use Rattle.ov_history.specs.Masters.{Masters}
use Rattle.ov_history.specs.Plain.{PlainHistory}
use Rattle.ov_history.specs.Sealed.{SealedHistory}
use Rattle.ov_history.specs.Texts.{brief_of}
use Rattle.ov_images.specs.Images.{Keeps, Keys, keys_of}
use Rattle.ov_journal.specs.Standing.{IsUnborn}
use Rattle.ov_store.specs.Carrying.{IsOfSecondFormat}
use Rattle.ov_thinning.specs.SealedThin.{thinned_plain, thinned_sealed}
use Rattle.ov_tidy.specs.Copies.{KeepsFirst}

-- no store was begun on the image, or it keeps some first updates of the history
abbrev pub IsUnbornOrFront : Keys → SealedHistory → Image → Type 0
IsUnbornOrFront k h x = IsUnborn x.book ⊎ KeepsFirst k h x

-- From an unborn disk with nothing pending a crash at any moment leaves no store, or some first
-- updates of this history; and at the end with 0 it lasts there whole, and the disk still tells its
-- bytes, which are those of a store of the second format.
pub record Gets {E : Type 0} (tells : DiskTells E) (k : Keys) (h : SealedHistory) (status : ℕ)
    (first last : E) : Type 0 where
  pub any_moment : Told (tells.reads first) (λ i. IsUnborn i.book → Only i (tells.may_leave first)
      → LeavesOnly tells first last (IsUnbornOrFront k h))
  pub lasts : status ≡ 0 → (x : Image) → tells.may_leave last x → Keeps k h x
  pub second : status ≡ 0
      → (x : Image) × (tells.reads last ≡ Some x) × IsOfSecondFormat x.book

-- The new disk gets one sealed history: it is the shorter one of these places, as it was sent but for
-- the bytes of files that are gone, and right for the masters. Of these files too it has the tokens and
-- the tags that the old disk keeps.
pub record HasShorter {E : Type 0} (tells : DiskTells E) (k : Masters) (p : PlainHistory)
    (g : SealedHistory) (kept : List ℕ) (status : ℕ) (first last : E) : Type 0 where
  pub history : SealedHistory
  pub right : IsRight k (thinned_plain p kept) history
  pub agree : AgreeButGone history (thinned_sealed g kept)
  pub tags : brief_of history ≡ brief_of (thinned_sealed g kept)
  pub gets : Gets tells (keys_of k) history status first last
