-- What a call that ended well leaves on the disk.
use Rattle.std.proofs.Common.{◌≡◌, false, refl, subst}
use Rattle.ov_disk.specs.Disk.{StaysTold}
use Rattle.ov_disk.specs.Tells.{DiskTells}
use Rattle.ov_history.specs.Masters.{Masters}
use Rattle.ov_books.specs.Books.{Booked, with_settling}
use Rattle.ov_books.specs.Images.{Keeps}
use Rattle.ov_book.specs.Opened.{Holds, Opened}
use Rattle.ov_owning.specs.Owning.{LastsSettled}
use Rattle.ov_owning.proofs.Calls.{is_settled}
use Rattle.std.proofs.Common.{None}

-- an open book that stands for the settled one, after a call from another with the same masters
pub lasts_settled : {D : Type 0} (disk : DiskTells D) (b : Booked) (s t : Opened D)
    → StaysTold (disk.reads s.disk) (disk.reads t.disk) → t.masters ≡ s.masters → t.failed ≡ false
    → Holds disk (with_settling b) t → LastsSettled disk s b t.disk
lasts_settled disk b s t told same well holds i reads c left =
    let now = told i reads in
    subst (λ (k : Masters). Keeps k (with_settling b) c) same
    (holds.disk well now.0 now.1 c left)

-- from a book to an earlier one with the same masters, whose disk told its bytes then too
pub lasts_from : {D : Type 0} (disk : DiskTells D) (b : Booked) (s t : Opened D) (new : D)
    → StaysTold (disk.reads s.disk) (disk.reads t.disk) → t.masters ≡ s.masters
    → LastsSettled disk t b new → LastsSettled disk s b new
lasts_from disk b s t new told same lasts i reads c left =
    let now = told i reads in
    subst (λ (k : Masters). Keeps k (with_settling b) c) same (lasts now.0 now.1 c left)

-- a book without a pending intent is settled already
pub lasts_as_is : {D : Type 0} (disk : DiskTells D) (b : Booked) (s : Opened D) → s.pending ≡ None
    → s.failed ≡ false → Holds disk b s → LastsSettled disk s b s.disk
lasts_as_is disk b s none well holds =
    lasts_settled disk b s s (λ i reads. (i, reads)) refl well (is_settled disk b s none holds)
