-- What comes of a question to the owner's book.
use Rattle.std.specs.Prelude.{◌≡◌, ◌⊎◌, ℕ, List, Option, Result, Ok, Err, ⊤}
use Rattle.ov_acts.specs.Files.{FindsMasters, plain_masters}
use Rattle.ov_acts.specs.declared.stop.Stop.{Stop}
use Rattle.ov_base.specs.declared.mode.Mode.{Mode}
use Rattle.ov_book.specs.Beginning.{IsBeginFault}
use Rattle.ov_book.specs.declared.fault.BookBegin.{BookBegin}
use Rattle.ov_books.specs.Books.{Booked, IsBook}
use Rattle.ov_books.specs.Images.{Keeps}
use Rattle.ov_disk.specs.Disk.{Image, Told}
use Rattle.ov_disk.specs.Moments.{LeavesOnly}
use Rattle.ov_disk.specs.Tells.{DiskTells}
use Rattle.ov_history.specs.Masters.{Masters}
use Rattle.ov_journal.specs.Standing.{IsUnborn}
use Rattle.ov_keyfile.specs.declared.masters.Masters.{Masters as ReadMasters}
use Rattle.ov_consulting.specs.Answers.{Answer, answer_by}
use Rattle.ov_consulting.specs.Endings.{End, unopened, unread}
use Rattle.ov_consulting.specs.declared.job.Question.{Question}
use Rattle.ov_consulting.specs.declared.stop.BookStop.{BookStop}
use Rattle.ov_consulting.specs.declared.stop.BookStop.TheVariants as stops

-- the end that an answer is
abbrev pub end_of : Answer → End
end_of (Ok bytes) = Ok bytes
end_of (Err why) = Err (stops.Refused why)

-- ---- a book that answers

-- The end is the answer of a book of this mode. Where the disk tells its bytes, it is the one that
-- they keep under these masters.
pub record IsOfBook (k : Masters) (mode : Mode) (told : Option Image) (q : Question) (end : End)
    : Type 0 where
  pub book : Booked
  pub is_book : IsBook book
  pub mode_is : book.mode ≡ mode
  pub kept : Told told (Keeps k book)
  pub is : end ≡ end_of (answer_by k book q)

-- ---- no book that answers

-- No book was begun on this image, which counts as none; or none opens under these masters and in
-- this mode, by this fault.
abbrev pub IsUnopened : Masters → Mode → Image → BookStop → Type 0
IsUnopened k mode i stop =
    (IsUnborn i.book × (stop ≡ stops.NoBook))
    ⊎ ((fault : BookBegin) × IsBeginFault k mode i fault × (stop ≡ unopened fault))

-- ---- all of a call

-- How a question ends under these masters: with the answer of the book on the disk, or since there is
-- none. Memory may be refused at any time, and a fault of the disk says nothing of the book.
abbrev pub Ends : Masters → Mode → Option Image → Question → End → Type 0
Ends k mode told q (Ok bytes) = IsOfBook k mode told q (Ok bytes)
Ends k mode told q (Err (stops.Refused why)) = IsOfBook k mode told q (Err (stops.Refused why))
Ends k mode told q (Err stops.NoBook) = Told told (λ i. IsUnopened k mode i stops.NoBook)
Ends k mode told q (Err stops.OtherKeys) = Told told (λ i. IsUnopened k mode i stops.OtherKeys)
Ends k mode told q (Err stops.Memory) = ⊤
Ends k mode told q (Err stops.Disk) = ⊤
Ends k mode told q (Err stops.Read) = ⊥
Ends k mode told q (Err stops.BadKeys) = ⊥

-- A question to the book on a disk, under these masters. Nothing is written: a crash at any moment
-- leaves what it might have left at the start.
pub record ConsultsUnder {D : Type 0} (tells : DiskTells D) (k : Masters) (mode : Mode)
    (q : Question) (d e : D) (end : End) : Type 0 where
  pub unwritten : Told (tells.reads d) (λ _. LeavesOnly tells d e (tells.may_leave d))
  pub ends : Ends k mode (tells.reads d) q end

-- by the masters that were found; or there are none, and the disk isn't looked at
abbrev pub ConsultsAfter : {D : Type 0} → DiskTells D → Mode → Question → D → D → End
    → Result ReadMasters Stop → Type 0
ConsultsAfter tells mode q d e end (Ok masters) =
    ConsultsUnder tells (plain_masters masters) mode q d e end
ConsultsAfter tells mode q d e end (Err stop) = (e ≡ d) × (end ≡ Err (unread stop))

-- all of a call
abbrev pub Consults : {D : Type 0} → DiskTells D → Mode → Question → Option (List ℕ) → D → D → End
    → Type 0
Consults tells mode q keys d e end =
    (found : Result ReadMasters Stop) × FindsMasters keys found
    × ConsultsAfter tells mode q d e end found
