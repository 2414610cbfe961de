-- What a call by the owner's book does from its key file on.
use Rattle.std.specs.Prelude.{◌≡◌, ◌⊎◌, ℕ, List, length, Option, Some, None, IsOk, IsSome, Result, Ok, Err}
use Rattle.ov_acts.specs.Files.{FindsMasters, plain_masters}
use Rattle.ov_acts.specs.declared.stop.Stop.{Stop}
use Rattle.ov_base.specs.declared.mode.Mode.{Mode}
use Rattle.ov_book.specs.Beginning.{IsBeginFault, IsBegun, LeavesBook, WritesNoBorn}
use Rattle.ov_book.specs.Intending.{next_book}
use Rattle.ov_book.specs.Opened.{Holds, Opened}
use Rattle.ov_book.specs.declared.fault.BookBegin.{BookBegin}
use Rattle.ov_book.specs.declared.fault.BookBegin.TheVariants.{BaseDiffers}
use Rattle.ov_book.specs.declared.intent.Intent.{Intent}
use Rattle.ov_books.specs.Books.{Booked}
use Rattle.ov_disk.specs.Disk.{Told}
use Rattle.ov_disk.specs.Tells.{DiskTells}
use Rattle.ov_history.specs.Masters.{Masters}
use Rattle.ov_keyfile.specs.declared.masters.Masters.{Masters as ReadMasters}
use Rattle.ov_peer.specs.Tells.{PeerTells}
use Rattle.ov_owning.specs.Endings.{End, unbegun, unread}
use Rattle.ov_owning.specs.Intents.{FindsIntent}
use Rattle.ov_owning.specs.Owning.{LastsSettled, Owns}
use Rattle.ov_owning.specs.declared.job.OwnAct.{OwnAct}
use Rattle.ov_owning.specs.declared.job.OwnAct.TheVariants.{Resume}
use Rattle.ov_owning.specs.declared.stop.OwnStop.TheVariants as stops

-- the act carries out what is pending
abbrev pub IsResume : OwnAct → Type 0
IsResume Resume = Unit {0}
IsResume act = ⊥

-- ---- the book

-- The book was begun or opened: it stands for some book, whatever the disk tells, and for each book
-- of the mode for which the disk's image stood. A crash meanwhile leaves such a book, and where there
-- was one nothing is written.
pub record OpensBook {D : Type 0} (disk : DiskTells D) (k : Masters) (mode : Mode) (d : D)
    (s : Opened D) : Type 0 where
  pub stands : (b : Booked) × Holds disk b s
  pub begun : IsBegun disk k mode (disk.reads d) s
  pub leaves : LeavesBook disk k mode d s.disk
  pub quiet : WritesNoBorn disk d s.disk

-- a check value that is said to be that of another base master is as long as the one that is given
abbrev pub HasCheckForm : BookBegin → Type 0
HasCheckForm (BaseDiffers stored given) = length stored ≡ length given
HasCheckForm fault = Unit {0}

-- No book was begun, by this fault.
pub record OpensNone {D : Type 0} (disk : DiskTells D) (k : Masters) (mode : Mode) (d e : D)
    (fault : BookBegin) : Type 0 where
  pub form : HasCheckForm fault
  pub cause : Told (disk.reads d) (λ i. IsBeginFault k mode i fault)
  pub leaves : LeavesBook disk k mode d e
  pub quiet : WritesNoBorn disk d e

-- ---- by an open book

-- the book with this intent, where there is one
abbrev pub with_intended : {D : Type 0} → Opened D → Option Intent → Booked → Booked
with_intended s None b = b
with_intended s (Some intent) b = next_book s intent b

-- nothing is asked, and the disk stays as it is
abbrev pub IsIdle : {P D : Type 0} → P → P → D → D → Type 0
IsIdle p q d e = (q ≡ p) × (e ≡ d)

-- By the intent of an act, for each book for which the open one stands; a call that ends well leaves it
-- with the intent settled. Or the bytes that the act stores aren't read, and nothing is asked.
abbrev pub OwnsFound : {P D : Type 0} → PeerTells P → DiskTells D → Mode → Opened D
    → P → P → D → End → Result (Option Intent) Stop → Type 0
OwnsFound peer disk mode s p q e end (Ok intent) =
    (b : Booked) → Holds disk b s
    → Owns peer disk s mode intent b (with_intended s intent b) p q e end
    × (IsOk end → LastsSettled disk s (with_intended s intent b) e)
OwnsFound peer disk mode s p q e end (Err stop) =
    IsIdle p q s.disk e × (end ≡ Err (unread stop))

-- By an open book. An act other than `resume` ends where an intent is pending, and the bytes that it
-- stores stay unread then; else they are read before anything is asked.
abbrev pub OwnsOpen : {P D : Type 0} → PeerTells P → DiskTells D → OwnAct → Mode
    → Option (List ℕ) → Type 0 → Opened D → P → P → D → End → Type 0
OwnsOpen peer disk act mode body untaken s p q e end =
    ((IsResume act → ⊥) × IsSome s.pending × IsIdle p q s.disk e × untaken
    × (end ≡ Err (stops.Pending s.settled.epoch)))
    ⊎ ((IsResume act ⊎ (s.pending ≡ None))
    × ((found : Result (Option Intent) Stop) × FindsIntent act body found
    × OwnsFound peer disk mode s p q e end found))

-- ---- from the key file on

-- Under these masters: by the book on the disk; or there is none, nothing is asked, and the bytes to
-- be stored stay unread.
abbrev pub OwnsUnder : {P D : Type 0} → PeerTells P → DiskTells D → Masters → OwnAct → Mode
    → Option (List ℕ) → Type 0 → P → P → D → D → End → Type 0
OwnsUnder peer disk k act mode body untaken p q d e end =
    ((fault : BookBegin) × OpensNone disk k mode d e fault × (q ≡ p) × untaken
    × (end ≡ Err (unbegun fault)))
    ⊎ ((s : Opened _) × OpensBook disk k mode d s
    × OwnsOpen peer disk act mode body untaken s p q e end)

-- by the masters that were found; or there are none, and nothing is done
abbrev pub OwnsAfter : {P D : Type 0} → PeerTells P → DiskTells D → OwnAct → Mode
    → Option (List ℕ) → Type 0 → P → P → D → D → End → Result ReadMasters Stop → Type 0
OwnsAfter peer disk act mode body untaken p q d e end (Ok masters) =
    OwnsUnder peer disk (plain_masters masters) act mode body untaken p q d e end
OwnsAfter peer disk act mode body untaken p q d e end (Err stop) =
    IsIdle p q d e × untaken × (end ≡ Err (unread stop))

-- All of a call. `untaken` is that nothing was taken of the file with the bytes to be stored: so it is
-- where the call ends before its intent is known, since there are no keys, or there is no book, or an
-- intent is pending.
abbrev pub OwnsBy : {P D : Type 0} → PeerTells P → DiskTells D → OwnAct → Mode
    → Option (List ℕ) → Option (List ℕ) → Type 0 → P → P → D → D → End → Type 0
OwnsBy peer disk act mode keys body untaken p q d e end =
    (found : Result ReadMasters Stop) × FindsMasters keys found
    × OwnsAfter peer disk act mode body untaken p q d e end found
