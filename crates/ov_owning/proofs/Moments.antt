-- What a crash leaves of a book in a call that looks or settles.
use Rattle.std.proofs.Common.{◌≡◌, ◌+◌, ℕ, Result, Ok, Err, false, inl, inr, ⊎_elim, sym, subst}
use Rattle.ov_disk.specs.Disk.{Told}
use Rattle.ov_disk.specs.Moments.{IsUntouched, LeavesOnly}
use Rattle.ov_disk.specs.Tells.{DiskTells}
use Rattle.ov_disk.proofs.Runs.{started, weaker}
use Rattle.ov_books.specs.Books.{Booked, with_settling}
use Rattle.ov_books.specs.Images.{KeepsEither}
use Rattle.ov_book.specs.Opened.{Holds, Opened}
use Rattle.ov_book.specs.Settling.{LeavesSettling, Settles}
use Rattle.ov_book.specs.declared.fault.SettleFault.{SettleFault}
use Rattle.ov_book.specs.declared.fault.SettleFault.TheVariants as faults
use Rattle.ov_owning.specs.Owning.{HasIntent, LeavesSettledIf}

module _ {D : Type 0} (disk : DiskTells D) where
  -- a disk that was only read keeps what it kept
  pub looked_moments : (made : Type 0) (s : Opened D) (b : Booked) (d1 : D) → Holds disk b s
      → s.failed ≡ false → IsUntouched disk s.disk d1
      → Told (disk.reads s.disk) (λ _. LeavesOnly disk s.disk d1 (HasIntent made s.masters b))
  looked_moments made s b d1 holds ok quiet i at =
      weaker disk s.disk d1 (disk.may_leave s.disk) (HasIntent made s.masters b) quiet.any_moment
      (λ c left. inl (holds.disk ok i at c left))

  -- where it is known that the update was made, its intent may be settled
  made_moments : (made : Type 0) (is : made) (s t : Opened D) → s.failed ≡ false
      → LeavesSettling disk s t → LeavesSettledIf disk made s t.disk
  made_moments made is s t ok leaves b holds i at =
      weaker disk s.disk t.disk (KeepsEither s.masters b (with_settling b))
      (HasIntent made s.masters b) (leaves b holds ok i at)
      (λ c keeps. ⊎_elim (λ old. inl old) (λ new. inr (is, new)) keeps)

  -- a call that changed nothing
  idle_moments : (made : Type 0) (s t : Opened D) → s.failed ≡ false → t ≡ s
      → LeavesSettledIf disk made s t.disk
  idle_moments made s t ok same b holds i at =
      subst (λ (x : Opened D). LeavesOnly disk s.disk x.disk (HasIntent made s.masters b)) (sym same)
      (started disk s.disk (HasIntent made s.masters b) (λ c left. inl (holds.disk ok i at c left)))

  -- an intent is settled only by the epoch after the book's
  pub settled_moments : (s t : Opened D) (told : ℕ) (result : Result (Unit {0}) SettleFault)
      → s.failed ≡ false → Settles told s t result → LeavesSettling disk s t
      → LeavesSettledIf disk (told ≡ s.settled.epoch + 1) s t.disk
  settled_moments s t told (Ok done) ok answer leaves =
      made_moments (told ≡ s.settled.epoch + 1) answer.1 s t ok leaves
  settled_moments s t told (Err faults.Disk) ok answer leaves =
      made_moments (told ≡ s.settled.epoch + 1) answer.0.1 s t ok leaves
  settled_moments s t told (Err faults.Memory) ok answer leaves =
      made_moments (told ≡ s.settled.epoch + 1) answer.0.1 s t ok leaves
  settled_moments s t told (Err (faults.Differs said kept)) ok answer leaves =
      idle_moments (told ≡ s.settled.epoch + 1) s t ok answer.1
  settled_moments s t told (Err faults.Failed) ok answer leaves = absurd (cc (ok, answer.0))
