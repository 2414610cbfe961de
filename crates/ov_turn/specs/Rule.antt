-- The rule of turns: what holds between any two steps.
use Rattle.std.specs.Prelude.{◌≡◌, ℕ, ◌+◌, ◌*◌, ◌<◌, ◌≤◌, ◌⊎◌, List, [], ◌∷◌, length}
use Rattle.std.specs.Prelude.{All, Bool, true, Some}
use mathlib.Core.Option as maybe
use lib.ListN.{get_elem?}
use Rattle.atomic_table.specs.Table.{State}
use Rattle.ov_peer.specs.Tells.{AnswererTells}
use Rattle.ov_turn.specs.declared.view.Entry.{Entry}
use Rattle.ov_turn.specs.declared.view.Stage.{Stage}
use Rattle.ov_turn.specs.declared.view.Stage.TheVariants.{Idle, Waiting, Serving, Raised}
use Rattle.ov_turn.specs.declared.view.View.{View}
use Rattle.ov_turn.specs.Logs.{GoesOnFrom, IsNumbered, epoch_after, spellings}
use Rattle.ov_turn.specs.Views.{spent}

-- ---- tickets

-- this of each, added up
abbrev pub total : {X : Type 0} → (X → ℕ) → List X → ℕ
total f [] = 0
total f (x ∷ xs) = f x + total f xs

-- how many tickets a seat has in hand
abbrev pub tickets_at : Stage → ℕ
tickets_at Idle = 0
tickets_at (Waiting ticket) = 1
tickets_at (Serving ticket) = 1
tickets_at (Raised ticket) = 1

-- the seat has this ticket in hand
abbrev pub HasTicket : ℕ → Stage → Type 0
HasTicket ticket Idle = ⊥
HasTicket ticket (Waiting mine) = ticket ≡ mine
HasTicket ticket (Serving mine) = ticket ≡ mine
HasTicket ticket (Raised mine) = ticket ≡ mine

-- the seat has the value in hand
abbrev pub HasValue : Stage → Type 0
HasValue Idle = ⊥
HasValue (Waiting ticket) = ⊥
HasValue (Serving ticket) = Unit {0}
HasValue (Raised ticket) = Unit {0}

-- the least call number that no update of the seat's pass has
abbrev pub unused_call : Stage → ℕ → ℕ
unused_call Idle calls = calls + 1
unused_call (Waiting ticket) calls = calls
unused_call (Serving ticket) calls = calls
unused_call (Raised ticket) calls = calls + 1

module _ {A : Type 0} where
  abbrev pub parts_of : View A → ℕ
  parts_of v = v.parts

  abbrev pub tickets_of : View A → ℕ
  tickets_of v = tickets_at v.stage

  -- the tickets that the seat drew, with those of the seats that it took in
  abbrev pub draws_of : View A → ℕ
  draws_of v = v.past + v.calls

  -- a seat has the value
  abbrev pub IsOut : State A (View A) → Type 0
  IsOut s =
      (holder : ℕ) × (v : View A) × (s.homes ≡ maybe.none ∷ [])
      × (get_elem? s.views holder ≡ maybe.some v) × HasValue v.stage

  -- no two seats have the same ticket
  abbrev pub HaveOwnTickets : List (View A) → Type 0
  HaveOwnTickets views =
      (i j : ℕ) (v w : View A) (ticket : ℕ)
      → get_elem? views i ≡ maybe.some v → get_elem? views j ≡ maybe.some w
      → HasTicket ticket v.stage → HasTicket ticket w.stage → i ≡ j

  -- the seat of this number was taken in
  abbrev pub IsSpentAt : List (View A) → ℕ → Type 0
  IsSpentAt views number = get_elem? views number ≡ maybe.some spent

  -- Where the test says whether the disk failed in an update of some pass, it failed in none of a
  -- seat's own passes but where the test says so, and a seat with the value was told what it says.
  pub record KnowsFailure (stuck : Bool) (v : View A) : Type 0 where
    pub own : v.knowledge.failed ≡ true → stuck ≡ true
    pub taken_in : All (λ k. k.failed ≡ true → stuck ≡ true) v.taken_in
    pub held : HasValue v.stage → v.stuck ≡ stuck

  -- What a seat knows at each stage, where one ticket is served, the next to draw is another, and
  -- the list is that of the updates that were accepted. A seat with the value has it alone, and its
  -- ticket is the one that is served.
  module _ (served next : ℕ) (log : List Entry) (homes : List (maybe.Option A)) (v : View A) where
    abbrev pub IsAtStage : Stage → Type 0
    IsAtStage Idle = Unit {0}
    IsAtStage (Waiting ticket) = (served ≤ ticket) × (ticket < next)
    IsAtStage (Serving ticket) =
        (ticket ≡ served) × (ticket < next) × (v.base ≡ log) × (homes ≡ maybe.none ∷ [])
    IsAtStage (Raised ticket) =
        (ticket ≡ served) × (ticket < next) × (v.knowledge.seen ≡ log)
        × (homes ≡ maybe.none ∷ [])

-- ---- the rule

module _ {A : Type 0} (tells : AnswererTells A) (start : A) where
  -- the value is at home, as these updates left it, and accepts no more where the test says so
  abbrev pub IsAtHome : State A (View A) → List Entry → Bool → Type 0
  IsAtHome s log stuck =
      (value : A) × (s.homes ≡ maybe.some value ∷ [])
      × tells.reached start (spellings log) value × (stuck ≡ true → tells.stuck value)

module _ {A : Type 0} (tells : AnswererTells A) (start : A) (passes : ℕ) where
  module _ (served next : ℕ) (log : List Entry) (homes : List (maybe.Option A))
      (views : List (View A)) where
    -- What the seat at this place knows, if it isn't spent. A pass has at most 4,294,967,295 calls.
    pub record IsSeat (place : ℕ) (v : View A) : Type 0 where
      pub live : 0 < v.parts
      pub begun : v.start ≡ Some start
      pub named : v.knowledge.number ≡ place
      pub called : draws_of v ≤ 4294967295 * v.parts
      pub staged : IsAtStage served next log homes v v.stage
      -- the list goes on from what its pass has seen and was told
      pub known : GoesOnFrom tells start v.knowledge log
      pub numbered : All (λ e. e.pass ≡ place → e.call < unused_call v.stage v.calls) log
      -- a seat that stands for several passes and took none in is the last, and for those to come
      pub last :
          1 < v.parts → v.taken_in ≡ []
          → (place + 1 ≡ length views) × (place + v.parts ≡ passes)
      pub taken_in :
          All (λ k. GoesOnFrom tells start k log × IsSpentAt views k.number) v.taken_in

  -- Word 0 is the next ticket to draw, word 1 the ticket that is served, and word 2 the epoch. Slot
  -- 0 is where the value is at home. It is stuck once the disk failed in an update of some pass.
  pub record IsKept (s : State A (View A)) : Type 0 where
    pub next : ℕ
    pub served : ℕ
    pub log : List Entry
    pub stuck : Bool
    pub words : s.words ≡ next ∷ served ∷ epoch_after tells start log ∷ []
    pub small : epoch_after tells start log < 4294967296
    pub tickets : served + total tickets_of s.views ≡ next
    pub drawn : next ≤ total draws_of s.views
    pub few : passes ≤ 65536
    pub whole : total parts_of s.views ≡ passes
    pub known : length s.views ≤ passes
    pub value : IsAtHome tells start s log stuck ⊎ IsOut s
    pub numbered : IsNumbered (length s.views) log
    pub seats :
        (place : ℕ) (v : View A) → get_elem? s.views place ≡ maybe.some v
        → (v ≡ spent) ⊎ IsSeat served next log s.homes s.views place v
    pub tickets_differ : HaveOwnTickets s.views
    pub failures :
        (place : ℕ) (v : View A) → get_elem? s.views place ≡ maybe.some v → KnowsFailure stuck v
