-- What each step tells its seat: the seat before it, the number found, and the seat after it.
use Rattle.std.specs.Prelude.{◌≡◌, ◌≢◌, ℕ, ◌+◌, ◌<◌, ◌≤◌, List, [], ◌∷◌, ◌++◌, length, map}
use Rattle.std.specs.Prelude.{◌||◌, All, Bool, true, false, IfOk, OnOk, Some, Result, Ok, Err}
use Rattle.atomic_table.specs.Seated.{TableId}
use Rattle.atomic_table.specs.Table.{Me, Step}
use Rattle.atomic_table.specs.declared.shared.Seat.{Seat}
use Rattle.ov_base.specs.declared.memory.Memory.{Memory}
use Rattle.ov_peer.specs.Spellings.{fails_update, says_accepted, spelling_of, with_accepted}
use Rattle.ov_peer.specs.Tells.{AnswererTells, StaysStuck}
use Rattle.ov_turn.specs.declared.view.Entry.{Entry}
use Rattle.ov_turn.specs.declared.view.Stage.TheVariants.{Idle, Waiting, Serving}
use Rattle.ov_turn.specs.declared.view.View.{View}
use Rattle.ov_turn.specs.Passes.{PassState}
use Rattle.ov_turn.specs.Logs.{GoesOnFrom, IsNumbered, LeavesStuck, entry, epoch_after, longer_if}
use Rattle.ov_turn.specs.Logs.{spellings}
use Rattle.ov_turn.specs.Views.{drawn, informed, opened, raised, rested, serving}

-- a seat: what it knows, and the value, where it has it
abbrev pub SeatState : Type 0 → Type 0
SeatState A = Me A (View A)

-- what a step tells
abbrev pub StepTells : Type 0 → Type 1
StepTells A = Step A → SeatState A → ℕ → SeatState A → Type 0

module _ {A : Type 0} where
  -- a ticket was drawn
  abbrev pub Draws : StepTells A
  Draws step m ticket n = (n.0 ≡ drawn m.0 ticket) × (n.1 ≡ m.1)

  module _ (tells : AnswererTells A) where
    -- the seat has the value, which accepted these updates
    abbrev pub Holds : SeatState A → List Entry → Type 0
    Holds m log =
        (start : A) × (value : A) × (m.0.start ≡ Some start)
        × (m.1 ≡ (0, value) ∷ []) × tells.reached start (spellings log) value

    -- the value that the seat has accepts no more where the test says so
    abbrev pub HoldsStuck : SeatState A → Bool → Type 0
    HoldsStuck m stuck =
        (value : A) → m.1 ≡ (0, value) ∷ [] → stuck ≡ true → tells.stuck value

    -- The ticket is served: the seat took the value, as updates left it that go on from what its
    -- pass knows. It accepts no more where the pass was told that the disk failed in one.
    abbrev pub Takes : ℕ → SeatState A → SeatState A → Type 0
    Takes ticket m n =
        (log : List Entry) × (stuck : Bool) × (n.0 ≡ serving m.0 ticket log stuck)
        × Holds n log × HoldsStuck n stuck × (m.0.knowledge.failed ≡ true → stuck ≡ true)
        × ((start : A) → m.0.start ≡ Some start → GoesOnFrom tells start m.0.knowledge log)

    -- a seat that waits looked which ticket is served
    abbrev pub Looks : StepTells A
    Looks step m found n =
        (ticket : ℕ) → m.0.stage ≡ Waiting ticket → m.1 ≡ []
        → (found ≡ ticket → Takes ticket m n) × (found ≢ ticket → n ≡ m)

    -- the epoch was read: no less than the one told before, and than that of the updates seen
    abbrev pub Reads : StepTells A
    Reads step m epoch n =
        (n.0 ≡ informed m.0 epoch) × (n.1 ≡ m.1) × (epoch < 4294967296)
        × (m.0.knowledge.told ≤ epoch)
        × ((start : A) → m.0.start ≡ Some start
        → epoch_after tells start m.0.knowledge.seen ≤ epoch)

  -- the epoch was raised by an update of this spelling
  abbrev pub Raises : List ℕ → StepTells A
  Raises spelling step m found n =
      (ticket : ℕ) → m.0.stage ≡ Serving ticket → (n.0 ≡ raised m.0 ticket spelling) × (n.1 ≡ m.1)

  -- the value was given back, and the turn passed on, by a call in whose update the disk failed where
  -- the test says so
  abbrev pub PassesOn : Bool → StepTells A
  PassesOn failed step m found n = (n.0 ≡ rested m.0 failed) × (n.1 ≡ [])

-- ---- an answer in the seat's turn

-- the updates after an answer
abbrev pub updates_after : Result ℕ Memory → List (List ℕ) → List ℕ → List ℕ → List (List ℕ)
updates_after (Ok epoch) list request reply = with_accepted list request reply
updates_after (Err memory) list request reply = list

module _ {A : Type 0} (tells : AnswererTells A) where
  -- the value in hand answered the request, and told its epoch, or memory was refused
  abbrev pub Answers : A → List ℕ → Result ℕ Memory → List ℕ → List (ℕ × A) → Type 0
  Answers value request result reply hand =
      (left : A) × (hand ≡ (0, left) ∷ []) × StaysStuck tells value left request reply result
      × ((start : A) (list : List (List ℕ)) → tells.reached start list value
      → IfOk result (λ epoch. tells.replies start list request reply
      × (epoch ≡ tells.epoch_of start + length (with_accepted list request reply)))
      × tells.reached start (updates_after result list request reply) left)

-- ---- a call, and the passes given back

-- the list after an answer, with this update where it is accepted
abbrev pub log_after : Result ℕ Memory → List Entry → Entry → List ℕ → List Entry
log_after (Ok epoch) log e reply = longer_if (says_accepted reply) log e
log_after (Err memory) log e reply = log

-- whether the disk failed in the update that was asked
abbrev pub failed_after : Result ℕ Memory → List ℕ → List ℕ → Bool
failed_after (Ok epoch) request reply = fails_update request reply
failed_after (Err memory) request reply = false

module _ {A : Type 0} where
  -- the seat after one more call, before which these updates were accepted, and in whose update the
  -- disk failed where the test says so
  abbrev pub after_turn : View A → List Entry → List Entry → Bool → View A
  after_turn v log seen failed = record v {
    calls = v.calls + 1;
    base = log;
    stuck = false;
    knowledge = record v.knowledge { seen = seen; failed = failed || v.knowledge.failed };
  }

  -- the update that the next call of a seat asks by this request
  abbrev pub entry_of : View A → List ℕ → Entry
  entry_of v request = entry v.knowledge.number (v.calls + 1) (spelling_of request)

  -- the seat is at this table, with no ticket
  abbrev pub IsSeatOf : TableId → Seat A (View A) → Type 0
  IsSeatOf table seat =
      (seat.table_id ≡ table) × (seat.me.0.stage ≡ Idle) × (seat.me.1 ≡ [])
      × (0 < seat.me.0.parts)

  -- the seat took the seats of these passes in, but for the first of them that are left
  abbrev pub TakesIn : View A → List (PassState A) → List (PassState A) → View A → Type 0
  TakesIn v passes left w =
      (w.knowledge ≡ v.knowledge) × (w.parts + length left ≡ v.parts + length passes)
      × (map (λ p. p.knowledge) left ++ w.taken_in ≡ map (λ p. p.knowledge) passes ++ v.taken_in)

-- a pass that was told that the disk failed in an update has none accepted
abbrev pub RefusesOnce : {A : Type 0} → View A → Result ℕ Memory → List ℕ → Type 0
RefusesOnce v result reply =
    OnOk result (v.knowledge.failed ≡ true → says_accepted reply ≡ false)

module _ {A : Type 0} (tells : AnswererTells A) (start : A) where
  -- the seat stands for passes that haven't asked
  abbrev pub IsUnasked : SeatState A → Type 0
  IsUnasked m = m ≡ (opened tells start m.0.knowledge.number m.0.parts, [])

  -- one call in the seat's turn
  abbrev pub TakesTurn : View A → List ℕ → Result ℕ Memory → List ℕ → View A → Type 0
  TakesTurn v request result reply w =
      (log : List Entry) × GoesOnFrom tells start v.knowledge log
      × OnOk result (tells.replies start (spellings log) request reply)
      × (w
      ≡ after_turn v log (log_after result log (entry_of v request) reply)
      (failed_after result request reply))

  -- The value comes back: it accepted these updates, which go on from all that the seat knows and
  -- took in. It accepts no more where one of these was told that the disk failed in an update.
  abbrev pub GivesUp : ℕ → View A → A → Type 0
  GivesUp passes v value =
      (log : List Entry) × tells.reached start (spellings log) value × IsNumbered passes log
      × GoesOnFrom tells start v.knowledge log
      × All (λ k. GoesOnFrom tells start k log) v.taken_in
      × LeavesStuck tells value v.knowledge × All (LeavesStuck tells value) v.taken_in
