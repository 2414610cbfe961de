-- What a session asks by a pass, in the turns of the value that the pass is of.
use Rattle.std.specs.Prelude.{◌≡◌, ℕ, List, Option, Some, None}
use Rattle.ov_peer.specs.Tells.{AnswererTells}
use Rattle.ov_session.specs.Tells.{AskerTells, Asks}
use Rattle.ov_turn.specs.Passes.{Fails, PassState, Replies}

module _ {V : Type 0} (answerer : AnswererTells V) where
  -- a call in its turn: the request was replied to, or memory was refused
  abbrev pub TakesTurn : V → PassState V → List ℕ → Option (List ℕ) → PassState V → Type 0
  TakesTurn start p request (Some reply) q = Replies answerer start p request reply q
  TakesTurn start p request None q = Fails answerer start p q

  -- a call of a pass, answered by what the value of the pass was at first
  abbrev pub CallsOnce : Asks (PassState V)
  CallsOnce p request reply q =
      (start : V) × (p.start ≡ Some start) × TakesTurn start p request reply q

  -- a pass asks in its turns, and is spent after 4,294,967,295 calls
  abbrev pub in_turns : AskerTells (PassState V)
  in_turns = record {
    asks = CallsOnce;
    ready = λ _. Unit {0};
    spent = λ p. p.calls ≡ 4294967295;
    borrow = λ _. 0;
  }
