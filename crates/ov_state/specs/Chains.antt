-- The chains by which a reader derives the keys of a file, and where they lead.
use Rattle.std.specs.Prelude.{◌≡◌, ℕ, List, Option, Some, None, Result, Ok, Err}
use Rattle.ov_tokens.specs.declared.chain.Chain.{Chain}
use Rattle.ov_tokens.specs.declared.label.Kind.TheVariants.{Derive, Surface}
use Rattle.ov_tokens.specs.Keys.{node_key}
use Rattle.ov_chain.specs.Walk.{access_along, walked}
use Rattle.ov_history.specs.Refusals.{read_refusal}
use Rattle.ov_history.specs.Masters.{Masters, access_key}
use Rattle.ov_history.specs.Catalogue.{Filed, Catalogue, filed_at, matrix_shown}
use Rattle.ov_history.specs.Chains.{IsBaseChain, IsSurfaceChain}
use Rattle.ov_state.specs.declared.chained.Chained.{Chained}
use Rattle.ov_state.specs.declared.fault.ChainFault.{ChainFault}
use Rattle.ov_state.specs.declared.fault.ChainFault.TheVariants.{Refused, Memory}

-- ---- which chains they are

-- both chains of a user to a file, with what else a reader needs of it
pub record IsChained (s : Catalogue) (user number : ℕ) (c : Chained) : Type 0 where
  pub epoch : c.epoch ≡ s.epoch
  pub file : c.file ≡ number
  pub length : c.length ≡ (filed_at s number).length
  pub generation : c.generation ≡ (filed_at s number).generation
  pub tag : c.tag ≡ (filed_at s number).tag
  pub base : IsBaseChain s.base s.grants user (filed_at s number).node c.base
  pub surface : IsSurfaceChain s.surface user (filed_at s number).surface c.surface

-- The answer has both chains where the user may read the file, and otherwise says why not. Memory
-- may be refused in either case.
abbrev pub AnswersChain : Catalogue → ℕ → ℕ → Result Chained ChainFault → Type 0
AnswersChain s user file (Ok c) =
    (read_refusal (matrix_shown s) user file ≡ None) × IsChained s user file c
AnswersChain s user file (Err (Refused why)) = read_refusal (matrix_shown s) user file ≡ Some why
AnswersChain s user file (Err Memory) = Unit {0}

-- ---- where they lead

-- from the key of its root a surface chain leads to the key of the surface, under the surface
-- master
abbrev pub LeadsToSurface : List ℕ → Option ℕ → Option Chain → Type 0
LeadsToSurface master None chain = Unit {0}
LeadsToSurface master (Some node) None = ⊥
LeadsToSurface master (Some node) (Some chain) =
    walked (node_key Surface master chain.root) chain.steps ≡ node_key Surface master node

-- from the keys of their roots both chains lead to the keys of the file, under the two masters
pub record LeadsToKeys (k : Masters) (f : Filed) (c : Chained) : Type 0 where
  pub base : access_along (node_key Derive k.base c.base.root) c.base ≡ access_key k.base f.node
  pub surface : LeadsToSurface k.surface f.surface c.surface
