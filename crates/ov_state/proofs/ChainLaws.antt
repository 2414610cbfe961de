-- The chains of a reader, and the keys at their ends.
use Rattle.std.proofs.Common.{◌≡◌, ◌≢◌, ℕ, zero, suc, ◌+◌, ◌<◌, Bool, true, false, List, [], ◌∷◌, Some, None, length, get_or, drop, refl, ◌∙◌, sym, ap, subst, add-one, inl, inr, true≢false}
use Rattle.std.specs.Prelude.{Contains, Option, slice_index}
use Rattle.std.proofs.Math.Seq.{drop-cons}
use Rattle.ov_base.specs.Sets.{Has, has}
use Rattle.ov_tokens.specs.declared.chain.Chain.{Chain}
use Rattle.ov_tokens.specs.declared.chain.Step.{Step}
use Rattle.ov_tokens.specs.declared.label.Kind.{Kind}
use Rattle.ov_tokens.specs.declared.label.Kind.TheVariants.{Derive, Access as AccessLabels, Surface}
use Rattle.ov_tokens.specs.declared.label.Label.{Label}
use Rattle.ov_tokens.specs.declared.token.Token.{Token}
use Rattle.ov_tokens.specs.Keys.{access_key_of, derived_key, node_key}
use Rattle.ov_tokens.specs.Labels.{label_of}
use Rattle.ov_graph.specs.Contents.{Contents}
use Rattle.ov_graph.specs.Chain.{IsChain, IsChosen}
use Rattle.ov_graph.proofs.ListLaws.{Contains-cases}
use Rattle.ov_chain.specs.Path.{IsPath}
use Rattle.ov_chain.specs.Walk.{access_along, access_from, walked, last_label, IsSealed}
use Rattle.ov_chain.proofs.PathLaws.{chosen_path}
use Rattle.ov_chain.proofs.WalkLaws.{walked-path}
use Rattle.ov_base_layer.specs.declared.grant.Grant.{Grant}
use Rattle.ov_base_layer.specs.BaseContents.{BaseContents, holders_of}
use Rattle.ov_base_layer.specs.Holders.{Access, access_of, accesses_of}
use Rattle.ov_base_layer.specs.Seals.{access_token}
use Rattle.ov_base_layer.proofs.HolderLaws.{holders_are}
use Rattle.ov_base_layer.proofs.SealLaws.{access_leads}
use Rattle.ov_history.specs.Keys.{AreTrueEdges, AreTrueTokens}
use Rattle.ov_history.specs.Masters.{Masters, access_key}
use Rattle.ov_history.specs.Layers.{root_of}
use Rattle.ov_history.specs.Catalogue.{Nodes, Catalogue}
use Rattle.ov_state.specs.Contents.{nodes_of}
use Rattle.ov_history.specs.Chains.{graph_of, IsAccessChain, IsBaseChain, IsBaseChainIf, IsEdgeChain, IsSurfaceChain}
use Rattle.ov_state.specs.Chains.{LeadsToSurface}

-- ---- chains over edges

chosen_of : (kind : Kind) (graph : Contents) (root node far : ℕ) (steps : List Step)
    → IsChosen kind graph root node far steps → IsChosen kind (graph_of (nodes_of graph)) root node far steps
chosen_of kind graph root node zero steps chosen = chosen
chosen_of kind graph root node (suc far) steps (edge, before, first, chosen, same) =
    (edge, before, first, chosen_of kind graph root edge.from far before chosen, same)

-- a chain of a graph is one of its nodes, whatever room it has
pub chain_of : (kind : Kind) (graph : Contents) (root node : ℕ) (steps : List Step)
    → IsChain kind graph root node steps → IsChain kind (graph_of (nodes_of graph)) root node steps
chain_of kind graph root node steps is = record {
  edges = is.edges;
  distance = is.distance;
  chosen = chosen_of kind graph root node is.edges steps is.chosen;
}

-- ---- access tokens

module _ (grants : List Grant) (i : ℕ) (d : Grant) (inside : i < length grants) (user node : ℕ) where
  this_or_later : Contains (accesses_of (drop i grants)) (record { user = user; node = node })
      → (access_of (get_or grants i d) ≡ record { user = user; node = node } → ⊥)
      → Contains (accesses_of (drop (i + 1) grants)) (record { user = user; node = node })
  this_or_later there other =
      let next : accesses_of (drop i grants) ≡ access_of (get_or grants i d) ∷ accesses_of (drop (i + 1) grants) =
      rw (add-one, drop-cons grants i d inside) refl in
      let wanted : Access = record { user = user; node = node } in
      elim (Contains-cases (access_of (get_or grants i d)) (accesses_of (drop (i + 1) grants)) wanted
      (subst (λ (a : List Access). Contains a wanted) next there)) [
        | inl here ↦ absurd (other here)
        | inr later ↦ later
      ]

  -- an access token that isn't this one comes later
  pub not_of_user : Contains (accesses_of (drop i grants)) (record { user = user; node = node })
      → (get_or grants i d).user ≢ user
      → Contains (accesses_of (drop (i + 1) grants)) (record { user = user; node = node })
  not_of_user there other = this_or_later there (λ same. other (ap (λ (a : Access). a.user) same))

  pub not_to_node : Contains (accesses_of (drop i grants)) (record { user = user; node = node })
      → (get_or grants i d).node ≢ node
      → Contains (accesses_of (drop (i + 1) grants)) (record { user = user; node = node })
  not_to_node there other = this_or_later there (λ same. other (ap (λ (a : Access). a.node) same))

-- a holder who isn't in the set of the node was given access to it
pub given_outside : (layer : BaseContents) (node user : ℕ) → Has (holders_of layer node) user
    → has (slice_index layer.graph.sets node) user ≡ false
    → Contains (accesses_of layer.grants) (record { user = user; node = node })
given_outside layer node user held outside =
    elim ((holders_are layer.graph.sets (accesses_of layer.grants) node user).0 held) [
      | inl member ↦ absurd (true≢false (sym member ∙ outside))
      | inr given ↦ given
    ]

-- ---- the last label

-- a path leads to the label of its end
path_label : (kind : Kind) (graph : Contents) (from to : ℕ) (steps : List Step) → IsPath kind graph from to steps
    → last_label (label_of kind from) steps ≡ label_of kind to
path_label kind graph from to [] path = ap (label_of kind) path
path_label kind graph from to (step ∷ steps) (near, first, path) =
    ap (λ (s : Step). last_label s.to steps) first.leads ∙ path_label kind graph near to steps path

-- ---- keys

sealed_edges : (kind : Kind) (master : List ℕ) (nodes : Nodes) → AreTrueEdges kind master nodes
    → IsSealed kind master (graph_of nodes)
sealed_edges kind master nodes edges to edge there = ap (λ (t : Token). t.bytes) (edges to edge there)

-- over true edges a chain leads to the key of its node
pub edge_chain_leads : (kind : Kind) (master : List ℕ) (nodes : Nodes) (user node : ℕ) (chain : Chain)
    → AreTrueEdges kind master nodes → IsEdgeChain kind nodes user node chain
    → walked (node_key kind master chain.root) chain.steps ≡ node_key kind master node
edge_chain_leads kind master nodes user node chain edges is =
    walked-path kind master (graph_of nodes) chain.root node chain.steps (sealed_edges kind master nodes edges)
    (chosen_path kind (graph_of nodes) chain.root node is.1.edges chain.steps is.1.chosen)

access_by_edges : (k : Masters) (s : Catalogue) (user node : ℕ) (chain : Chain) → AreTrueTokens k s
    → IsEdgeChain Derive s.base user node chain
    → access_along (node_key Derive k.base chain.root) chain ≡ access_key k.base node
access_by_edges k s user node chain tokens is =
    let end : last_label (label_of Derive chain.root) chain.steps ≡ label_of Derive node =
    path_label Derive (graph_of s.base) chain.root node chain.steps
    (chosen_path Derive (graph_of s.base) chain.root node is.1.edges chain.steps is.1.chosen) in
    ap (λ (l : Label). access_from l.kind (walked (node_key Derive k.base chain.root) chain.steps)) end
    ∙ ap access_key_of (edge_chain_leads Derive k.base s.base user node chain tokens.base is)

access_by_token : (k : Masters) (s : Catalogue) (user node : ℕ) (chain : Chain) → AreTrueTokens k s
    → IsAccessChain s.base s.grants user node chain
    → access_along (node_key Derive k.base chain.root) chain ≡ access_key k.base node
access_by_token k s user node chain tokens (token, there, is) =
    let root : ℕ = root_of s.base.sets user in
    let same : token ≡ access_token k.base root node =
    tokens.grants (record { user = user; node = node; token = token }) there in
    ap (λ (c : Chain). access_along (node_key Derive k.base c.root) c) is
    ∙ ap (λ (t : Token). derived_key (node_key Derive k.base root) (label_of AccessLabels node) t.bytes) same
    ∙ access_leads k.base k.surface root node

-- over true tokens every base chain leads to the access key of its node
pub base_chain_leads : (k : Masters) (s : Catalogue) (user node : ℕ) (chain : Chain) → AreTrueTokens k s
    → IsBaseChain s.base s.grants user node chain
    → access_along (node_key Derive k.base chain.root) chain ≡ access_key k.base node
base_chain_leads k s user node chain tokens is = by_set (has (slice_index s.base.sets node) user) is where
  by_set : (b : Bool) → IsBaseChainIf b s.base s.grants user node chain
      → access_along (node_key Derive k.base chain.root) chain ≡ access_key k.base node
  by_set true edges = access_by_edges k s user node chain tokens edges
  by_set false access = access_by_token k s user node chain tokens access

-- over true tokens every surface chain leads to the key of its node
pub surface_chain_leads : (k : Masters) (s : Catalogue) (user : ℕ) (surface : Option ℕ) (chain : Option Chain)
    → AreTrueTokens k s → IsSurfaceChain s.surface user surface chain → LeadsToSurface k.surface surface chain
surface_chain_leads k s user None chain tokens is = tt
surface_chain_leads k s user (Some node) None tokens is = absurd is
surface_chain_leads k s user (Some node) (Some chain) tokens is =
    edge_chain_leads Surface k.surface s.surface user node chain tokens.surface is
