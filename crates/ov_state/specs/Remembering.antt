-- What a state remembers of a question.
use Rattle.std.specs.Prelude.{◌≡◌, ℕ, List}
use Rattle.ov_graph.specs.Contents.{plan_of}
use Rattle.ov_state.specs.declared.covering.Planned.{Planned}

-- the cover is that of the list in a base layer with these sets
abbrev pub IsPlannedIn : {W : ℕ} → List ℕ → Planned W → Type 0
IsPlannedIn sets planned = planned.cover ≡ plan_of sets planned.list
