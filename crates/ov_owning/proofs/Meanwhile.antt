-- What a crash at any moment of a call leaves, by what is served before the call and after it.
use Rattle.std.proofs.Common.{◌≡◌, inl, inr, ⊎_elim, refl, subst}
use Rattle.std.specs.Prelude.{◌⊎◌, IsSome}
use Rattle.ov_disk.specs.Disk.{Image}
use Rattle.ov_disk.specs.Moments.{LeavesOnly}
use Rattle.ov_disk.specs.Tells.{DiskTells}
use Rattle.ov_disk.proofs.Runs.{then_on, weaker}
use Rattle.ov_history.specs.Masters.{Masters}
use Rattle.ov_history.specs.Texts.{brief_of}
use Rattle.ov_protocol.specs.Serving.{Service}
use Rattle.ov_books.specs.Books.{Booked, history_of, with_settling}
use Rattle.ov_books.specs.Images.{IsImageOf, Keeps}
use Rattle.ov_book.specs.Opened.{Opened}
use Rattle.ov_owning.specs.Owning.{HasIntent}
use Rattle.ov_owning.specs.Serving.{IsServedMeanwhile, ServesBook}

-- nothing was asked: what is served stays, and so does the book
pub same_meanwhile : {D : Type 0} (disk : DiskTells D) (k : Masters) (b : Booked) (v : Service)
    → ServesBook k b v → (d e : D) → LeavesOnly disk d e (IsImageOf k b)
    → LeavesOnly disk d e (IsServedMeanwhile k b.mode v v)
same_meanwhile disk k b v serves d e leaves =
    weaker disk d e (IsImageOf k b) (IsServedMeanwhile k b.mode v v) leaves
    (λ c image. (b, refl, image, inl serves, λ some. (serves, serves)))

-- the book, and `next` with the intent of the call, which is the same where one was pending already
module _ {D : Type 0} (disk : DiskTells D) (k : Masters) (b next : Booked) (v now : Service)
    (serves : ServesBook k b v) (mode_is : next.mode ≡ b.mode) (before : ServesBook k next v)
    (after : ServesBook k next now) (resumed : IsSome b.pending → next ≡ b) (made : Type 0)
    (same : made → brief_of now.history ≡ history_of next) where
  abbrev IsMeanwhile : Image → Type 0
  IsMeanwhile = IsServedMeanwhile k b.mode v now

  of_book : (c : Image) → IsImageOf k b c → IsMeanwhile c
  of_book c image = (
    b,
    refl,
    image,
    inl serves,
    λ some. (serves, subst (λ (x : Booked). ServesBook k x now) (resumed some) after),
  )

  of_next : (c : Image) → HasIntent made k next c → IsMeanwhile c
  of_next c (inl keeps) = (next, mode_is, inr keeps, inl before, λ some. (before, after))
  of_next c (inr (is, keeps)) = (
    with_settling next,
    mode_is,
    inr keeps,
    inr record { surface = after.surface; check = after.check; history = inl (same is) },
    λ some. absurd (cc some),
  )

  -- from a disk over which the book was opened, and from there on by the open book
  pub call_meanwhile : (s : Opened D) (d new : D) → s.masters ≡ k
      → LeavesOnly disk d s.disk (IsImageOf k b)
      → LeavesOnly disk s.disk new (λ c. Keeps s.masters b c ⊎ HasIntent made s.masters next c)
      → LeavesOnly disk d new IsMeanwhile
  call_meanwhile s d new masters opened moments =
      then_on disk d s.disk new IsMeanwhile
      (λ c. Keeps s.masters b c ⊎ HasIntent made s.masters next c)
      (weaker disk d s.disk (IsImageOf k b) IsMeanwhile opened of_book) moments
      (λ c has. ⊎_elim
      (λ keeps. of_book c (inr (subst (λ (m : Masters). Keeps m b c) masters keeps)))
      (λ intent. of_next c (subst (λ (m : Masters). HasIntent made m next c) masters intent)) has)
