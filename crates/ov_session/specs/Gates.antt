-- What a session tells its gate before it asks.
use Rattle.std.specs.Prelude.{◌≡◌, ◌+◌, ℕ, min}
use Rattle.ov_session.specs.declared.end.SessionEnd.{SessionEnd}
use Rattle.ov_session.specs.Ends.{Serves}
use Rattle.ov_session.specs.Links.{Link}
use Rattle.ov_session.specs.Tells.{AskerTells}

-- the number of the next request; it stays at the last one of 32 bits
abbrev pub number_after : ℕ → ℕ
number_after number = min (number + 1) 4294967295

-- An asker, with the number of the request that it is asked next. Each request was told to the gate
-- by this number, while the asker was still as before the ask.
abbrev pub gated : {A : Type 0} → AskerTells A → (ℕ → A → Type 0) → AskerTells (A × ℕ)
gated tells was_told = record {
  asks = λ before request reply after.
      was_told before.1 before.0 × tells.asks before.0 request reply after.0
      × (after.1 ≡ number_after before.1);
  ready = λ asker. tells.ready asker.0;
  spent = λ asker. tells.spent asker.0;
  borrow = λ asker. tells.borrow asker.0;
}

-- what a session did that ended so, of whose requests the gate was told before each ask, by their
-- numbers from 0
pub record ServesGated {A : Type 0} (tells : AskerTells A) (was_told : ℕ → A → Type 0) (a b : A)
    (old new : Link) (ending : SessionEnd) : Type 0 where
  pub next : ℕ
  pub serves : Serves (gated tells was_told) (a, 0) (b, next) old new ending
