-- Rows of books: which books small stores serve, and what a first call by a book needs.
use Rattle.std.specs.Prelude.{◌≡◌, ⊤, ℕ, List, [], ◌∷◌, Option, Some}
use Rattle.ov_base.specs.declared.mode.Mode.{Mode}
use Rattle.ov_disk.specs.Disk.{Image, Only, image}
use Rattle.ov_disk.specs.Tape.{Tape, fresh, may_leave_of}
use Rattle.ov_disk.specs.TapeLaws.{tape_tells}
use Rattle.ov_history.specs.Masters.{Masters}
use Rattle.ov_history.specs.Sealed.{blank}
use Rattle.ov_history.specs.Sealing.{sealed}
use Rattle.ov_record.specs.Briefs.{BriefEnrol}
use Rattle.ov_peer.specs.Tells.{PeerTells}
use Rattle.ov_protocol.specs.Serving.{Service}
use Rattle.ov_acts.specs.Laws.{service_under}
use Rattle.ov_books.specs.Books.{Booked, blank_book, with_intent, with_settling}
use Rattle.ov_owning.specs.Endings.{End}
use Rattle.ov_owning.specs.Serving.{HasBody, HasBook, HasKeyFile, IsOwnAnswered}
use Rattle.ov_owning.specs.Serving.{LeavesServed, ServesBook}
use Rattle.ov_owning.specs.declared.job.OwnAct.{OwnAct}
use Rattle.ov_owning.specs.declared.owning.Owned.{Owned}
use Rattle.ov_protocol_t.specs.Premises.{one_user}

-- ---- small books

-- the book in which the enrolment of a user is pending, whose name is `a`
abbrev pub pending_user : Mode → Booked
pending_user mode = with_intent (blank_book mode) (BriefEnrol (97 ∷ [])) []

-- what is served without updates, under these masters
abbrev pub new_service : Masters → Mode → Service
new_service k mode = service_under k (blank mode 0)

-- what is served with this user, under these masters
abbrev pub user_service : Masters → Mode → Service
user_service k mode = service_under k (sealed k (one_user mode))

-- A book with a pending enrolment is served without it and with it. Once it is settled the book is
-- served with it alone, and before it was written down it was served without it alone.
pub record PendingIsServedTwice : Type 0 where
  pub without : (k : Masters) (mode : Mode) → ServesBook k (pending_user mode) (new_service k mode)
  pub with_it : (k : Masters) (mode : Mode) → ServesBook k (pending_user mode) (user_service k mode)
  pub settled : (k : Masters) (mode : Mode)
      → ServesBook k (with_settling (pending_user mode)) (user_service k mode)
  pub too_early : (k : Masters) (mode : Mode)
      → ServesBook k (with_settling (pending_user mode)) (new_service k mode) → ⊥
  pub too_late : (k : Masters) (mode : Mode)
      → ServesBook k (blank_book mode) (user_service k mode) → ⊥

-- ---- a first call

-- a disk in memory with this image, and nothing pending, has this book, and a crash leaves that
pub record IsDiskOf (k : Masters) (mode : Mode) (b : Booked) (i : Image) : Type 0 where
  pub book : HasBook tape_tells k mode b (fresh i)
  pub only : Only book.image (may_leave_of (fresh i))

-- A call by a book that begins on an empty disk, over a store that begins empty: a right key file, and
-- a file that isn't too long, are all that it needs. What a crash leaves of its disk is right for the
-- next call, over what is served then.
pub record IsFirstCall {P : Type 0} (peer : PeerTells P) (k : Masters) (act : OwnAct) (mode : Mode)
    (keys body : Option (List ℕ)) (q : P) (done : Owned Tape) : Type 0 where
  pub served : HasKeyFile keys k
      → (left : LeavesServed peer tape_tells k (blank_book mode) act body (new_service k mode) q
      (fresh (image [] [])) done.disk done.end)
      × ((c : Image) → may_leave_of done.disk c
      → (x : Booked) × IsDiskOf k mode x c × ServesBook k x left.now)
  pub answered : HasKeyFile keys k → HasBody act body → IsOwnAnswered ⊤ done.code
