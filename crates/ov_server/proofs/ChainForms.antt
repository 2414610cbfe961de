-- Chains that are given are within the limits of a store.
use Rattle.std.proofs.Common.{◌≡◌, ℕ, zero, suc, ◌<◌, ◌≤◌, ◌==◌, ◌^◌, Bool, true, false, List, [], ◌∷◌, ◌++◌, length, refl, sym, subst, arith, inl, inr, length-append}
use Rattle.std.specs.Prelude.{None, Option, Some, Contains, IfSome, if◌then◌else◌, is_some}
use Rattle.std.specs.Prelude.{slice_index}
use Rattle.std.specs.List.{AllByRecursion}
use Rattle.ov_base.specs.declared.limits.TheConstants.{MAX_LAYER_NODES}
use Rattle.ov_base.specs.Sets.{has}
use Rattle.ov_tokens.specs.declared.chain.Chain.{Chain}
use Rattle.ov_tokens.specs.declared.chain.Step.{Step}
use Rattle.ov_tokens.specs.declared.edge.Edge.{Edge}
use Rattle.ov_tokens.specs.declared.label.Kind.{Kind}
use Rattle.ov_tokens.specs.declared.label.Kind.TheVariants.{Derive, Access, Surface}
use Rattle.ov_tokens.specs.Labels.{label_of}
use Rattle.ov_graph.specs.Chain.{IsChosen, IsFirst}
use Rattle.ov_graph.specs.Contents.{Contents, IsGraph, edges_to, starts_of}
use Rattle.ov_graph.proofs.ListLaws.{Contains-first, Contains-later}
use Rattle.ov_graph.proofs.ReachLaws.{starts-Contains}
use Rattle.ov_base_layer.specs.declared.grant.Grant.{Grant}
use Rattle.ov_fields.specs.Spelling.{IsOneOf}
use Rattle.ov_history.specs.Catalogue.{Catalogue, Filed, Nodes, filed_at, matrix_shown}
use Rattle.ov_history.specs.Chains.{IsAccessChain, IsBaseChain, IsBaseChainIf, IsEdgeChain, IsSurfaceChain, graph_of}
use Rattle.ov_history.specs.Layers.{root_of}
use Rattle.ov_history.specs.Places.{living_at}
use Rattle.ov_history.specs.Refusals.{read_refusal, read_tests}
use Rattle.ov_history.specs.Sound.{IsLayer, IsPlaced}
use Rattle.ov_history.proofs.SoundTests.{is_below, none_applies}
use Rattle.ov_state.specs.Chains.{IsChained}
use Rattle.ov_state.specs.Contents.{IsWell}
use Rattle.ov_state.specs.declared.chained.Chained.{Chained}
use Rattle.ov_wire.specs.AnswerForm.{HasAnswerForm}
use Rattle.ov_wire.specs.Chains.{IsChain, IsStep, base_kinds, surface_kinds}
use Rattle.ov_wire.specs.Entries.{IsNode}
use Rattle.ov_wire.specs.Updates.{Has32}
use Rattle.ov_server.specs.Telling.{HaveTokens, chained_answer}
use Rattle.ov_server.proofs.AskForms.{file_is, filed_below, filed_there, root_low}

-- ---- steps

-- the step leads to a label of this kind, of a node
abbrev IsOf : Kind → Step → Type 0
IsOf kind step = (step.to.kind ≡ kind) × IsNode step.to.number

all_and_last : (P : Step → Type 0) (steps : List Step) (last : Step) → AllByRecursion P steps → P last
    → AllByRecursion P (steps ++ last ∷ [])
all_and_last P [] last all is = (is, tt)
all_and_last P (step ∷ steps) last all is = (all.0, all_and_last P steps last all.1 is)

-- the first of the edges that suits is one of them
first_among : (sets : List ℕ) (root distance : ℕ) (edges : List Edge) (edge : Edge)
    → IsFirst sets root distance edges edge → Contains (starts_of edges) edge.from
first_among sets root distance [] edge first = absurd first
first_among sets root distance (e ∷ edges) edge (inl (near, same)) =
    subst (λ (x : Edge). Contains (starts_of (e ∷ edges)) x.from) (sym same)
    (Contains-first e.from (starts_of edges))
first_among sets root distance (e ∷ edges) edge (inr (far, later)) =
    Contains-later e.from (starts_of edges) edge.from
    (first_among sets root distance edges edge later)

module _ (kind : Kind) (graph : Contents) (is : IsGraph graph.sets graph.edges)
    (few : length graph.sets ≤ MAX_LAYER_NODES) (root : ℕ) where
  -- no more steps lead to a node than its number, since edges go upward
  pub chosen_form : (edges node : ℕ) (steps : List Step) → node < length graph.sets
      → IsChosen kind graph root node edges steps
      → AllByRecursion (IsOf kind) steps × (length steps ≤ node)
  chosen_form zero node steps there (same, none) =
      subst (λ (l : List Step). AllByRecursion (IsOf kind) l × (length l ≤ node)) (sym none)
      (tt, omega arith)
  chosen_form (suc edges) node steps there (edge, before, first, chosen, steps_are) =
      let from : Contains (starts_of (edges_to graph node)) edge.from =
      first_among graph.sets root edges (edges_to graph node) edge first in
      let lower : edge.from < node =
      (starts-Contains graph.sets node edge.from
      (subst (λ (l : List ℕ). Contains l edge.from) (is.covers node there) from)).0 in
      let rest = chosen_form edges edge.from before (omega (arith, lower, there)) chosen in
      let last : Step = record { to = label_of kind node; token = edge.token } in
      subst (λ (l : List Step). AllByRecursion (IsOf kind) l × (length l ≤ node)) (sym steps_are) (
        all_and_last (IsOf kind) before last rest.0 (refl, omega (arith, there, few)),
        omega (arith, rest.1, lower, length-append before (last ∷ [])),
      )

-- steps of one of these kinds, with tokens
of_kinds : (kind : Kind) (kinds : List Kind) (steps : List Step) → IsOneOf kind kinds
    → AllByRecursion (IsOf kind) steps → HaveTokens steps → AllByRecursion (IsStep kinds) steps
of_kinds kind kinds [] one all tokens = tt
of_kinds kind kinds (step ∷ steps) one all tokens = (
  (subst (λ k. IsOneOf k kinds) (sym all.0.0) one, all.0.1, tokens.0),
  of_kinds kind kinds steps one all.1 tokens.1,
)

-- ---- chains

-- the chain is one of an answer, and has fewer steps than a layer has nodes
abbrev pub HasForm : (ℕ → List Kind) → Chain → Type 0
HasForm kinds chain = IsChain kinds chain × (length chain.steps < MAX_LAYER_NODES)

edge_form : (kind : Kind) (kinds : ℕ → List Kind) (users : ℕ) (nodes : Nodes) (user node : ℕ)
    (chain : Chain) → IsLayer users nodes → user < users → node < length nodes.sets
    → ((n : ℕ) → IsOneOf kind (kinds n)) → IsEdgeChain kind nodes user node chain
    → HaveTokens chain.steps → HasForm kinds chain
edge_form kind kinds users nodes user node chain layer there node_there one (root, is) tokens =
    let form =
    chosen_form kind (graph_of nodes) layer.graph layer.few chain.root is.edges node chain.steps
    node_there is.chosen in
    let root_is_low = root_low users user nodes layer there in
    let short : length chain.steps < MAX_LAYER_NODES = omega (arith, form.1, node_there, layer.few)
    in (
      (
        subst IsNode (sym root) root_is_low,
        (
          omega (arith, short),
          of_kinds kind (kinds (length chain.steps)) chain.steps (one (length chain.steps)) form.0
              tokens,
        ),
      ),
      short,
    )

derive_is : (b : Bool)
    → IsOneOf Derive (if b then Derive ∷ Access ∷ [] else Derive ∷ [])
derive_is true = inl refl
derive_is false = inl refl

access_form : (users : ℕ) (nodes : Nodes) (grants : List Grant) (user node : ℕ) (chain : Chain)
    → IsLayer users nodes → user < users → node < length nodes.sets
    → IsAccessChain nodes grants user node chain → HaveTokens chain.steps
    → HasForm base_kinds chain
access_form users nodes grants user node chain layer there node_there (token, given, same) tokens =
    let one : Chain = record {
      root = root_of nodes.sets user;
      steps = record { to = label_of Access node; token = token } ∷ [];
    } in
    let has_token : HaveTokens one.steps =
    subst (λ (c : Chain). HaveTokens c.steps) same tokens in
    subst (HasForm base_kinds) (sym same) (
      (
        root_low users user nodes layer there,
        (omega arith, ((inr (inl refl), omega (arith, node_there, layer.few), has_token.0), tt)),
      ),
      omega arith,
    )

base_form : (users : ℕ) (nodes : Nodes) (grants : List Grant) (user node : ℕ) (chain : Chain)
    → IsLayer users nodes → user < users → node < length nodes.sets
    → IsBaseChain nodes grants user node chain → HaveTokens chain.steps → HasForm base_kinds chain
base_form users nodes grants user node chain layer there node_there is tokens =
    by_member (has (slice_index nodes.sets node) user) is where
      by_member : (b : Bool) → IsBaseChainIf b nodes grants user node chain
          → HasForm base_kinds chain
      by_member true edges =
          edge_form Derive base_kinds users nodes user node chain layer there node_there
          (λ n. derive_is (n == 1)) edges tokens
      by_member false access =
          access_form users nodes grants user node chain layer there node_there access tokens

surface_form : (users : ℕ) (nodes : Nodes) (user : ℕ) (surface : Option ℕ) (chain : Option Chain)
    → IsLayer users nodes → user < users → IfSome surface (λ n. n < length nodes.sets)
    → IsSurfaceChain nodes user surface chain → IfSome chain (λ c. HaveTokens c.steps)
    → IfSome chain (HasForm surface_kinds)
surface_form users nodes user None None layer there node_there is tokens = tt
surface_form users nodes user None (Some chain) layer there node_there is tokens = absurd is
surface_form users nodes user (Some node) None layer there node_there is tokens = absurd is
surface_form users nodes user (Some node) (Some chain) layer there node_there is tokens =
    edge_form Surface surface_kinds users nodes user node chain layer there node_there
    (λ n. inl refl) is tokens

both_parts : (o : Option Chain) → IfSome o (HasForm surface_kinds)
    → IfSome o (IsChain surface_kinds) × IfSome o (λ c. length c.steps < MAX_LAYER_NODES)
both_parts None form = (tt, tt)
both_parts (Some chain) form = form

-- ---- the answer

pub chained_form : (limit : ℕ) (c : Catalogue) (user file : ℕ) (chained : Chained) → IsWell limit c
    → read_refusal (matrix_shown c) user file ≡ None → IsChained c user file chained
    → Has32 chained.tag → chained.generation < 2 ^ 32
    → HaveTokens chained.base.steps → IfSome chained.surface (λ k. HaveTokens k.steps)
    → HasAnswerForm (chained_answer chained)
chained_form limit c user file chained well none is tag generation base surface =
    let tests = none_applies (read_tests (matrix_shown c) user file) none in
    let there : user < length c.users = is_below user (length c.users) tests.0 in
    let kept : is_some (living_at c.files file) ≡ true = file_is c file tests.1.0 in
    let f : Filed = filed_at c file in
    let placed : IsPlaced c f = well.sound.files file f (filed_there c file kept) in
    let low = well.each file f (filed_there c file kept) in
    let one = base_form (length c.users) c.base c.grants user f.node chained.base well.sound.base
    there placed.base is.base base in
    let two = both_parts chained.surface
    (surface_form (length c.users) c.surface user f.surface chained.surface well.sound.surface there
    placed.surface is.surface surface) in (
      (
        omega (arith, is.epoch, well.epoch),
        omega (arith, is.file, filed_below c file kept, well.files),
        omega (arith, is.length, low),
        generation,
        tag,
        one.0,
        two.0,
      ),
      one.1,
      two.1,
    )
