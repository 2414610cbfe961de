-- What contracts see: a shared value, its passes, and what a call tells.
use Rattle.std.specs.Prelude.{◌≡◌, ℕ, ◌+◌, ◌<◌, List, [], length, slice_index_or, All}
use Rattle.std.specs.Prelude.{◌||◌, Bool, true, false, Option, Some, Result, Ok, Err}
use Rattle.atomic_table.specs.Seated.{TableId}
use Rattle.atomic_table.specs.declared.shared.Seat.{Seat}
use Rattle.ov_peer.specs.declared.fault.AskFault.{AskFault}
use Rattle.ov_peer.specs.declared.fault.AskFault.TheVariants as faults
use Rattle.ov_peer.specs.Spellings.{fails_update, says_accepted, spelling_of}
use Rattle.ov_peer.specs.Tells.{AnswererTells}
use Rattle.ov_turn.specs.declared.view.Entry.{Entry}
use Rattle.ov_turn.specs.declared.view.Knowledge.{Knowledge}
use Rattle.ov_turn.specs.declared.view.Stage.TheVariants.{Idle}
use Rattle.ov_turn.specs.declared.view.View.{View}
use Rattle.ov_turn.specs.Logs.{GoesOnFrom, IsNumbered, LeavesStuck, entry, longer_if, spellings}

-- ---- what there is

-- a value that threads share: the table that it lies in, what it was at first, and how many passes
-- it has
pub record SharedState (A : Type 0) : Type 0 where
  pub table : TableId
  pub start : A
  pub passes : ℕ

-- a pass: the table that it is of, what the value was at first, how often the pass has asked, and
-- what it knows
pub record PassState (A : Type 0) : Type 0 where
  pub table : TableId
  pub start : Option A
  pub calls : ℕ
  pub knowledge : Knowledge

module _ {A : Type 0} where
  -- the pass is of this shared value
  abbrev pub IsPassOf : SharedState A → PassState A → Type 0
  IsPassOf s p = (p.table ≡ s.table) × (p.start ≡ Some s.start)

  -- the seat of a pass that has asked so often, between two calls
  abbrev pub IsAtRest : Seat A (View A) → ℕ → Type 0
  IsAtRest seat calls =
      (seat.me.0.stage ≡ Idle) × (seat.me.1 ≡ []) × (seat.me.0.parts ≡ 1)
      × (seat.me.0.past ≡ 0) × (seat.me.0.taken_in ≡ []) × (seat.me.0.calls ≡ calls)

  -- the pass of a seat
  abbrev pub pass_at : Seat A (View A) → PassState A
  pass_at seat = record {
    table = seat.table_id;
    start = seat.me.0.start;
    calls = seat.me.0.calls;
    knowledge = seat.me.0.knowledge;
  }

-- ---- what a call tells

module _ {A : Type 0} where
  -- the update that the next call of a pass asks by this request
  abbrev pub next_entry : PassState A → List ℕ → Entry
  next_entry p request = entry p.knowledge.number (p.calls + 1) (spelling_of request)

  -- the pass after one more call, in which it has seen these updates, and in whose update the disk
  -- failed where the test says so
  abbrev pub after_call : PassState A → List Entry → Bool → PassState A
  after_call p log failed = record p {
    calls = p.calls + 1;
    knowledge = record p.knowledge { seen = log; failed = failed || p.knowledge.failed };
  }

  -- the pass after it was told this epoch
  abbrev pub after_epoch : PassState A → ℕ → PassState A
  after_epoch p epoch = record p { knowledge = record p.knowledge { told = epoch } }

module _ {A : Type 0} (tells : AnswererTells A) where
  -- The request was asked in its turn: the list is that of the updates that were accepted before
  -- it, and goes on from what the pass knew. The reply is the value's after them, and the pass has
  -- seen them, with its own one where it is accepted. Once the pass was told that the disk failed in
  -- an update, none of its own is accepted any more.
  abbrev pub Replies : A → PassState A → List ℕ → List ℕ → PassState A → Type 0
  Replies start p request reply q =
      (log : List Entry) × GoesOnFrom tells start p.knowledge log
      × tells.replies start (spellings log) request reply
      × (p.knowledge.failed ≡ true → says_accepted reply ≡ false)
      × (q ≡ after_call p (longer_if (says_accepted reply) log (next_entry p request))
      (fails_update request reply))

  -- Memory was refused in its turn: nothing was accepted, and the pass has seen what was before.
  abbrev pub Fails : A → PassState A → PassState A → Type 0
  Fails start p q =
      (log : List Entry) × GoesOnFrom tells start p.knowledge log × (q ≡ after_call p log false)

  -- what a call tells; a pass that is spent asks nothing
  abbrev pub TellsAsk : A → PassState A → List ℕ → Result (Unit {0}) AskFault → List ℕ
      → PassState A → Type 0
  TellsAsk start p request (Ok done) reply q = Replies start p request reply q
  TellsAsk start p request (Err faults.Spent) reply q = q ≡ p
  TellsAsk start p request (Err faults.Memory) reply q = Fails start p q

  -- ---- the first passes, and the last

  -- a pass that hasn't asked
  abbrev pub first_pass : SharedState A → ℕ → PassState A
  first_pass s number = record {
    table = s.table;
    start = Some s.start;
    calls = 0;
    knowledge =
        record { number = number; seen = []; told = tells.epoch_of s.start; failed = false };
  }

  -- so many passes, numbered from 0
  abbrev pub AreFirst : SharedState A → List (PassState A) → Type 0
  AreFirst s items =
      (k : ℕ) (d : PassState A) → k < length items → slice_index_or items k d ≡ first_pass s k

  -- The value as its passes left it: it has accepted one list of updates, each of another call of
  -- one of them, that goes on from what every pass knows. Where a pass was told that the disk failed
  -- in an update, the value accepts no more.
  abbrev pub IsLeft : SharedState A → List (PassState A) → A → Type 0
  IsLeft s items value =
      (log : List Entry) × tells.reached s.start (spellings log) value
      × IsNumbered s.passes log × All (λ p. GoesOnFrom tells s.start p.knowledge log) items
      × All (λ p. LeavesStuck tells value p.knowledge) items
