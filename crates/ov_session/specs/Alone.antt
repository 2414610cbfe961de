-- What one answer of an answerer does.
use Rattle.std.specs.Prelude.{ℕ, List, Option, Some, None}
use Rattle.ov_peer.specs.Spellings.{with_accepted}
use Rattle.ov_peer.specs.Tells.{AnswererTells, Sticks}
use Rattle.ov_session.specs.Tells.{AskerTells, Asks}

-- the spellings so far, with that of the request where it was accepted
abbrev pub spellings_after : List (List ℕ) → List ℕ → Option (List ℕ) → List (List ℕ)
spellings_after list request (Some reply) = with_accepted list request reply
spellings_after list request None = list

-- a reply that was given is one after this start and these updates
abbrev pub IsReplyAfter : {V : Type 0} → AnswererTells V → V → List (List ℕ) → List ℕ
    → Option (List ℕ) → Type 0
IsReplyAfter tells start list request (Some reply) = tells.replies start list request reply
IsReplyAfter tells start list request None = Unit {0}

-- A value that accepts no more stays so and accepts nothing, and an update in which the disk failed
-- leaves it so.
abbrev pub SticksAfter : {V : Type 0} → AnswererTells V → Asks V
SticksAfter tells v request (Some reply) w = Sticks tells v w request reply
SticksAfter tells v request None w = tells.stuck v → tells.stuck w

-- From whatever start and by whatever updates the value was reached, the reply is one after these,
-- and the value after it is reached by them and by this request where it was accepted. None is
-- accepted any more after an update in which the disk failed.
abbrev pub AnswersOne : {V : Type 0} → AnswererTells V → Asks V
AnswersOne {V} tells v request reply w =
    ((start : V) (list : List (List ℕ)) → tells.reached start list v
    → IsReplyAfter tells start list request reply
    × tells.reached start (spellings_after list request reply) w)
    × SticksAfter tells v request reply w

-- an answerer that one session asks by itself: it may always ask, as often as that wants
abbrev pub alone : {V : Type 0} → AnswererTells V → AskerTells V
alone tells = record {
  asks = AnswersOne tells;
  ready = λ _. Unit {0};
  spent = λ _. ⊥;
  borrow = λ _. 0;
}
