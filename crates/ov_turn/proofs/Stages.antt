-- What a seat knows at each stage.
use Rattle.std.proofs.Common.{◌≡◌, ℕ, ◌+◌, ◌<◌, ◌≤◌, List, [], ◌∷◌, refl, sym, arith}
use mathlib.Core.Option as maybe
use Rattle.ov_turn.specs.declared.view.Entry.{Entry}
use Rattle.ov_turn.specs.declared.view.Stage.{Stage}
use Rattle.ov_turn.specs.declared.view.Stage.TheVariants.{Idle, Waiting, Serving, Raised}
use Rattle.ov_turn.specs.declared.view.View.{View}
use Rattle.ov_turn.specs.Rule.{HasTicket, HasValue, IsAtStage, tickets_at}
use Rattle.ov_turn.specs.Views.{informed, log_in_hand}

-- a seat with the value has a ticket
pub value_one : (st : Stage) → HasValue st → tickets_at st ≡ 1
value_one Idle h = absurd h
value_one (Waiting u) h = absurd h
value_one (Serving u) h = refl
value_one (Raised u) h = refl

module _ {A : Type 0} where
  -- a ticket in hand lies from the one that is served to below the next one
  pub has_between : (served next : ℕ) (log : List Entry) (homes : List (maybe.Option A)) (v : View A)
      (st : Stage) (t : ℕ) → IsAtStage served next log homes v st → HasTicket t st
      → (served ≤ t) × (t < next)
  has_between served next log homes v Idle t k h = absurd h
  has_between served next log homes v (Waiting u) t k h =
      let a = k.0 in let b = k.1 in (omega arith, omega arith)
  has_between served next log homes v (Serving u) t k h =
      let a = k.0 in let b = k.1 in (omega arith, omega arith)
  has_between served next log homes v (Raised u) t k h =
      let a = k.0 in let b = k.1 in (omega arith, omega arith)

  -- a seat with the value has the ticket that is served
  pub value_served : (served next : ℕ) (log : List Entry) (homes : List (maybe.Option A))
      (v : View A) (st : Stage) → IsAtStage served next log homes v st → HasValue st
      → HasTicket served st
  value_served served next log homes v Idle k h = absurd h
  value_served served next log homes v (Waiting u) k h = absurd h
  value_served served next log homes v (Serving u) k h = sym k.0
  value_served served next log homes v (Raised u) k h = sym k.0

  -- and it has the value alone
  pub value_out : (served next : ℕ) (log : List Entry) (homes : List (maybe.Option A)) (v : View A)
      (st : Stage) → IsAtStage served next log homes v st → HasValue st
      → homes ≡ maybe.none ∷ []
  value_out served next log homes v Idle k h = absurd h
  value_out served next log homes v (Waiting u) k h = absurd h
  value_out served next log homes v (Serving u) k h = k.3
  value_out served next log homes v (Raised u) k h = k.3

  -- the updates that the value in hand accepted are all that were accepted
  pub log_is : (served next : ℕ) (log : List Entry) (homes : List (maybe.Option A)) (v : View A)
      (st : Stage) → IsAtStage served next log homes v st → HasValue st
      → log_in_hand st v ≡ log
  log_is served next log homes v Idle k h = absurd h
  log_is served next log homes v (Waiting u) k h = absurd h
  log_is served next log homes v (Serving u) k h = k.2
  log_is served next log homes v (Raised u) k h = k.2

  -- one more ticket is drawn
  pub more_drawn : (served next : ℕ) (log : List Entry) (homes : List (maybe.Option A)) (v : View A)
      (st : Stage) → IsAtStage served next log homes v st
      → IsAtStage served (next + 1) log homes v st
  more_drawn served next log homes v Idle k = k
  more_drawn served next log homes v (Waiting u) k = (k.0, (let a = k.1 in omega arith))
  more_drawn served next log homes v (Serving u) k =
      (k.0, (let a = k.1 in omega arith), k.2, k.3)
  more_drawn served next log homes v (Raised u) k =
      (k.0, (let a = k.1 in omega arith), k.2, k.3)

  -- a seat without the value keeps its stage, where the ticket served stays at or below its own
  pub others_stay : (served served' next : ℕ) (log log' : List Entry)
      (homes homes' : List (maybe.Option A)) (v : View A) (st : Stage)
      → ((t : ℕ) → HasTicket t st → served' ≤ t) → (HasValue st → ⊥)
      → IsAtStage served next log homes v st → IsAtStage served' next log' homes' v st
  others_stay served served' next log log' homes homes' v Idle low not k = k
  others_stay served served' next log log' homes homes' v (Waiting u) low not k = (low u refl, k.1)
  others_stay served served' next log log' homes homes' v (Serving u) low not k = absurd (not tt)
  others_stay served served' next log log' homes homes' v (Raised u) low not k = absurd (not tt)

  -- a seat that is told the epoch keeps its stage
  pub informed_stays : (served next : ℕ) (log : List Entry) (homes : List (maybe.Option A))
      (v : View A) (epoch : ℕ) (st : Stage) → IsAtStage served next log homes v st
      → IsAtStage served next log homes (informed v epoch) st
  informed_stays served next log homes v epoch Idle k = k
  informed_stays served next log homes v epoch (Waiting u) k = k
  informed_stays served next log homes v epoch (Serving u) k = k
  informed_stays served next log homes v epoch (Raised u) k = k
