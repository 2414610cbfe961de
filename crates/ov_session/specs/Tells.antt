-- What the outside tells: an asker.
use Rattle.std.specs.Prelude.{ℕ, List, Option}

-- an ask: the asker before it, the request, its reply or none where memory was refused, and the
-- asker after it
abbrev pub Asks : Type 0 → Type 1
Asks A = A → List ℕ → Option (List ℕ) → A → Type 0

pub record AskerTells (A : Type 0) : Type 1 where
  -- what an asker asks
  pub asks : Asks A
  -- The asker may ask: what it asks by is its own, as a place in turns is that of the value which
  -- answers in them. Whoever makes an asker shows this, each ask needs it, and each ask keeps it.
  pub ready : A → Type 0
  -- the asker has asked as often as it may
  pub spent : A → Type 0
  -- which loan the asker asks by, for an asker that holds a `&mut`, and 0 for any other; each ask
  -- keeps it
  pub borrow : A → ℕ
