-- What calls make of a graph, however it is kept.
use Rattle.std.specs.Prelude.{ℕ, ◌≡◌, ◌⊎◌, ◌++◌, true, List, [], ◌∷◌, length}
use Rattle.ov_tokens.specs.declared.token.Token.{Token}
use Rattle.ov_graph.specs.Contents.{Contents, joined, plan_of}
use Rattle.ov_graph.specs.Reach.{IsRooted}
use Rattle.ov_index.specs.Agreement.{Agree}
use Rattle.ov_graph_t.specs.declared.calls.Call.{Call}
use Rattle.ov_graph_t.specs.declared.calls.Call.TheVariants.{Reserve, Add}

-- A graph with these sets accepts the set with these tokens: it is new, its users have roots, and
-- there is a token for each edge of its cover.
pub record IsAccepted (sets : List ℕ) (set : ℕ) (tokens : List Token) : Type 0 where
  pub fresh : (plan_of sets set).fresh ≡ true
  pub rooted : IsRooted sets set
  pub each : length tokens ≡ length (plan_of sets set).from

-- the new graph has the set at its end, with the edges of its cover, which have these tokens
pub record HasAtEnd (set : ℕ) (tokens : List Token) (old new : Contents) : Type 0 where
  pub sets : new.sets ≡ old.sets ++ set ∷ []
  pub edges : new.edges ≡ old.edges ++ joined (plan_of old.sets set).from tokens ∷ []

-- the set is added with these tokens, or passed over where the graph doesn't accept them
abbrev pub IsAdded : ℕ → List Token → Contents → Contents → Type 0
IsAdded set tokens old new =
    (IsAccepted old.sets set tokens × HasAtEnd set tokens old new)
    ⊎ (¬ IsAccepted old.sets set tokens × Agree old new)

-- what the call makes of the graph
abbrev pub IsCalled : {W : ℕ} → Call W → Contents → Contents → Type 0
IsCalled (Reserve sets edges) old new = Agree old new
IsCalled (Add set tokens) old new = IsAdded set tokens old new

-- what these calls make of the graph, one after the other
abbrev pub AreCalled : {W : ℕ} → List (Call W) → Contents → Contents → Type 0
AreCalled [] old new = Agree old new
AreCalled (call ∷ calls) old new =
    (next : Contents) × IsCalled call old next × AreCalled calls next new
