-- Chains as they stand in an answer.
use Rattle.std.specs.Prelude.{ℕ, ◌<◌, ◌^◌, ◌==◌, List, [], ◌∷◌, ◌++◌, length, if◌then◌else◌}
use Rattle.std.specs.List.{AllByRecursion}
use Rattle.std.specs.Int.{w16}
use Rattle.ov_tokens.specs.declared.label.Kind.{Kind}
use Rattle.ov_tokens.specs.declared.label.Kind.TheVariants.{Derive, Access, Surface}
use Rattle.ov_tokens.specs.Labels.{tag_of, label_of, label_bytes}
use Rattle.ov_tokens.specs.declared.token.Token.{Token}
use Rattle.ov_tokens.specs.declared.chain.Chain.{Chain}
use Rattle.ov_tokens.specs.declared.chain.Step.{Step}
use Rattle.ov_fields.specs.Spelling.{u32, token_field, counted, IsToken, IsOneOf}
use Rattle.ov_fields.specs.Reading.{Read, ◌>>=◌, ◌>>◌, making, one_of_at, number_at, many_at, token_at}
use Rattle.ov_wire.specs.Entries.{IsNode, node_at}
use Rattle.ov_wire.specs.declared.chains.Side.{Side}
use Rattle.ov_wire.specs.declared.chains.Side.TheVariants as sides

-- a step: its label, and the token that leads to it
abbrev pub step_field : Step → List ℕ
step_field step = label_bytes step.to ++ token_field step.token

-- a chain: its root, and its steps
abbrev pub chain_field : Chain → List ℕ
chain_field chain = u32 chain.root ++ counted step_field chain.steps

-- the kinds of labels in a chain of this many steps in the base layer: all lead to derivation keys,
-- or one alone to an access key
abbrev pub base_kinds : ℕ → List Kind
base_kinds count = if count == 1 then Derive ∷ Access ∷ [] else Derive ∷ []

-- the kinds of labels in a chain of this many steps in the surface layer
abbrev pub surface_kinds : ℕ → List Kind
surface_kinds count = Surface ∷ []

-- the kinds of labels in a chain of this many steps in this layer
abbrev pub kinds_of : Side → ℕ → List Kind
kinds_of sides.Base = base_kinds
kinds_of sides.Surface = surface_kinds

-- the step leads to a label of one of these kinds
abbrev pub IsStep : List Kind → Step → Type 0
IsStep kinds step = IsOneOf step.to.kind kinds × IsNode step.to.number × IsToken step.token

-- steps that an announced number can have, each to a label of the kinds for their number
abbrev pub AreSteps : (ℕ → List Kind) → List Step → Type 0
AreSteps kinds steps =
    (length steps < 2 ^ 16) × AllByRecursion (IsStep (kinds (length steps))) steps

-- a root, and steps
abbrev pub IsChain : (ℕ → List Kind) → Chain → Type 0
IsChain kinds chain = IsNode chain.root × AreSteps kinds chain.steps

-- ---- reading

-- the step with these fields
abbrev pub step : (Kind × ℕ) × Token → Step
step ((kind, number), token) = record { to = label_of kind number; token = token }

-- a label of one of these kinds, and a token
abbrev pub step_at : List Kind → List ℕ → Read Step
step_at kinds = making step (one_of_at tag_of kinds >> node_at >> token_at)

-- steps behind their number, which decides the kinds
unfoldable pub steps_at : (ℕ → List Kind) → List ℕ → Read (List Step)
steps_at kinds bytes = do
  count ← number_at w16 bytes
  many_at (step_at (kinds count.0)) count.0 count.1

-- the chain with these fields
abbrev pub chain : ℕ × List Step → Chain
chain (root, steps) = record { root = root; steps = steps }

-- a root, and steps
abbrev pub chain_at : (ℕ → List Kind) → List ℕ → Read Chain
chain_at kinds = making chain (node_at >> steps_at kinds)
