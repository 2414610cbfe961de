-- Inner: no public contract needs this. Answers made of what a state tells.
use Rattle.std.specs.Prelude.{◌≡◌, ℕ, ◌≤◌, List, Option, IfSome, slice_get}
use Rattle.std.specs.List.{AllByRecursion}
use Rattle.ov_base.specs.declared.limits.TheConstants.{MAX_USERS}
use Rattle.ov_tokens.specs.declared.chain.Step.{Step}
use Rattle.ov_tokens.specs.declared.edge.Edge.{Edge}
use Rattle.ov_fields.specs.Spelling.{IsToken}
use Rattle.ov_graph.specs.declared.cover.Cover.{Cover}
use Rattle.ov_graph.specs.Contents.{plan_of}
use Rattle.ov_history.specs.Catalogue.{Nodes}
use Rattle.ov_history.specs.Sound.{IsLayer}
use Rattle.ov_state.specs.declared.asking.Asked.{Asked}
use Rattle.ov_state.specs.declared.chained.Chained.{Chained}
use Rattle.ov_state.specs.declared.covering.Planned.{Planned}
use Rattle.ov_wire.specs.declared.answer.Answer.{Answer}
use Rattle.ov_wire.specs.declared.answer.Answer.TheVariants as answers
use Rattle.ov_wire.specs.AnswerForm.{IsSomeEntry}
use Rattle.ov_protocol.specs.Pages.{node_entry_of, page_of}

-- the answer that tells these numbers at an epoch
abbrev pub known_answer : ℕ → Asked → Answer
known_answer epoch asked = answers.Known (record {
  epoch = epoch;
  user = asked.user;
  base_root = asked.base_root;
  surface_root = asked.surface_root;
  file = asked.file;
  node = asked.node;
  wants = asked.wants;
})

-- the answer that tells this plan at an epoch
abbrev pub plan_answer : {W : ℕ} → ℕ → Planned W → Answer
plan_answer epoch planned = answers.Plan (record {
  epoch = epoch;
  file = planned.file;
  list = planned.list;
  node = planned.cover.node;
  fresh = planned.cover.fresh;
  from = planned.cover.from;
})

-- where the answer tells a plan, this is the cover of its list in a base layer with these sets
abbrev pub PlansIn : List ℕ → Answer → Type 0
PlansIn sets (answers.Plan plan) =
    ◌≡◌ {A = Cover} (record { node = plan.node; fresh = plan.fresh; from = plan.from })
    (plan_of sets plan.list)
PlansIn sets answer = Unit {0}

-- the answer that gives these chains
abbrev pub chained_answer : Chained → Answer
chained_answer chained = answers.Chained (record {
  epoch = chained.epoch;
  file = chained.file;
  length = chained.length;
  generation = chained.generation;
  tag = chained.tag;
  base = chained.base;
  surface = chained.surface;
})

-- each of these steps has a token of 32 bytes
abbrev pub HaveTokens : List Step → Type 0
HaveTokens steps = AllByRecursion (λ (step : Step). IsToken step.token) steps

-- each of these edges has a token of 32 bytes
abbrev pub LeadByTokens : List Edge → Type 0
LeadByTokens edges = AllByRecursion (λ (edge : Edge). IsToken edge.token) edges

-- the nodes of a layer of a store
abbrev pub IsLayerOfStore : Nodes → Type 0
IsLayerOfStore nodes = (users : ℕ) × (users ≤ MAX_USERS) × IsLayer users nodes

-- the entry of the node of this number, where there is one, as it stands in an answer
pub record PagesNode (nodes : Nodes) (number : ℕ) (page : Option (List ℕ)) : Type 0 where
  pub entry : page ≡ page_of (node_entry_of nodes number (slice_get nodes.sets number))
  pub form : IfSome page IsSomeEntry
