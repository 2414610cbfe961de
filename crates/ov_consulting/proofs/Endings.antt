-- Which causes an end has.
use Rattle.std.proofs.Common.{◌≡◌, Option, Ok, Err, inr, refl, sym, subst, ap}
use Rattle.ov_base.specs.declared.mode.Mode.{Mode}
use Rattle.ov_book.specs.Beginning.{IsBeginFault}
use Rattle.ov_book.specs.declared.fault.BookBegin.{BookBegin}
use Rattle.ov_book.specs.declared.fault.BookBegin.TheVariants as begins
use Rattle.ov_books.specs.Books.{Booked, IsBook}
use Rattle.ov_books.specs.Images.{Keeps}
use Rattle.ov_disk.specs.Disk.{Image, Told}
use Rattle.ov_history.specs.Masters.{Masters}
use Rattle.ov_consulting.specs.Answers.{Answer, answer_by}
use Rattle.ov_consulting.specs.Consulting.{Ends, end_of}
use Rattle.ov_consulting.specs.Endings.{End, StopsForKeys, unopened}
use Rattle.ov_consulting.specs.Saying.{Says}
use Rattle.ov_consulting.specs.declared.job.Question.{Question}
use Rattle.ov_consulting.specs.declared.stop.BookStop.TheVariants as stops

-- only a fault of the disk is told as one
pub disk_alone : (fault : BookBegin) → unopened fault ≡ stops.Disk → fault ≡ begins.Disk
disk_alone begins.Disk is = refl
disk_alone begins.NotAStore is = absurd (cc is)
disk_alone (begins.Damaged place) is = absurd (cc is)
disk_alone (begins.BaseDiffers stored given) is = absurd (cc is)
disk_alone (begins.SurfaceDiffers stored given) is = absurd (cc is)
disk_alone (begins.ModeDiffers stored given) is = absurd (cc is)
disk_alone begins.Memory is = absurd (cc is)

-- an open book has no fault of the disk
pub says_no_disk : (a : Answer) (end : End) → Says a end → end ≡ Err stops.Disk → ⊥
says_no_disk a end says is = subst (λ (e : End). Says a e) is says

module _ (k : Masters) (mode : Mode) (told : Option Image) (q : Question) where
  -- the masters were there
  pub keys_were_there : (no_keys reads : Type 0) (end : End) → Ends k mode told q end
      → StopsForKeys no_keys reads end
  keys_were_there no_keys reads end ends = record {
    keys = λ is. absurd (subst (λ (e : End). Ends k mode told q e) is ends);
    read = λ is. absurd (subst (λ (e : End). Ends k mode told q e) is ends);
  }

  -- what the book says ends the call
  pub ends_by : (b : Booked) (end : End) → IsBook b → b.mode ≡ mode → Told told (Keeps k b)
      → Says (answer_by k b q) end → Ends k mode told q end
  ends_by b (Ok bytes) is mode_is kept says = record {
    book = b;
    is_book = is;
    mode_is = mode_is;
    kept = kept;
    is = ap end_of (sym says);
  }
  ends_by b (Err (stops.Refused why)) is mode_is kept says = record {
    book = b;
    is_book = is;
    mode_is = mode_is;
    kept = kept;
    is = ap end_of (sym says);
  }
  ends_by b (Err stops.Memory) is mode_is kept says = tt
  ends_by b (Err stops.Disk) is mode_is kept says = tt
  ends_by b (Err stops.NoBook) is mode_is kept says = absurd says
  ends_by b (Err stops.OtherKeys) is mode_is kept says = absurd says
  ends_by b (Err stops.Read) is mode_is kept says = absurd says
  ends_by b (Err stops.BadKeys) is mode_is kept says = absurd says

  -- the book isn't opened
  pub ends_unopened : (fault : BookBegin) → Told told (λ i. IsBeginFault k mode i fault)
      → Ends k mode told q (Err (unopened fault))
  ends_unopened begins.Disk cause = tt
  ends_unopened begins.NotAStore cause = λ i at. inr (begins.NotAStore, cause i at, refl)
  ends_unopened (begins.Damaged place) cause = λ i at. inr (begins.Damaged place, cause i at, refl)
  ends_unopened (begins.BaseDiffers stored given) cause =
      λ i at. inr (begins.BaseDiffers stored given, cause i at, refl)
  ends_unopened (begins.SurfaceDiffers stored given) cause =
      λ i at. inr (begins.SurfaceDiffers stored given, cause i at, refl)
  ends_unopened (begins.ModeDiffers stored given) cause =
      λ i at. inr (begins.ModeDiffers stored given, cause i at, refl)
  ends_unopened begins.Memory cause = tt
