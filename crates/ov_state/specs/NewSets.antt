-- Inner: no public contract needs this. The surface sets that an update would add.
use Rattle.std.specs.Prelude.{◌≡◌, ℕ, ◌≤◌, List, ◌++◌, length, Option}
use Rattle.ov_base.specs.declared.limits.TheConstants.{MAX_LAYER_NODES}
use Rattle.ov_history.specs.Layers.{with_wants}

-- these sets are those that the wanted ones add to a layer's, in order, and there is room for them
pub record AreNew (sets : List ℕ) (wants : List (Option ℕ)) (new : List ℕ) : Type 0 where
  pub all : sets ++ new ≡ with_wants sets wants
  pub few : length (with_wants sets wants) ≤ MAX_LAYER_NODES
