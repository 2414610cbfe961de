-- Over true tokens the chains that a reader is told lead to the keys of the file.
use Rattle.std.proofs.Common.{◌≡◌, ◌∙◌, ℕ, Bool, true, false, List, [], ◌∷◌}
use Rattle.std.proofs.Common.{Option, Some, None, ap, refl, sym}
use Rattle.std.specs.Prelude.{slice_index}
use Rattle.ov_base.specs.Sets.{has}
use Rattle.ov_tokens.specs.declared.chain.Chain.{Chain}
use Rattle.ov_tokens.specs.declared.chain.Step.{Step}
use Rattle.ov_tokens.specs.declared.label.Kind.{Kind}
use Rattle.ov_tokens.specs.declared.label.Kind.TheVariants.{Derive, Access as AccessLabels, Surface}
use Rattle.ov_tokens.specs.declared.label.Label.{Label}
use Rattle.ov_tokens.specs.declared.token.Token.{Token}
use Rattle.ov_tokens.specs.Keys.{access_key_of, derived_key, node_key}
use Rattle.ov_tokens.specs.Labels.{label_of}
use Rattle.ov_graph.specs.Contents.{Contents}
use Rattle.ov_chain.specs.Path.{IsPath}
use Rattle.ov_chain.specs.Walk.{IsSealed, access_along, access_from, last_label, walked}
use Rattle.ov_chain.proofs.PathLaws.{chosen_path}
use Rattle.ov_chain.proofs.WalkLaws.{walked-path}
use Rattle.ov_base_layer.specs.Seals.{access_token}
use Rattle.ov_base_layer.proofs.SealLaws.{access_leads}
use Rattle.ov_history.specs.Catalogue.{Catalogue, Nodes}
use Rattle.ov_history.specs.Chains.{IsAccessChain, IsBaseChain, IsBaseChainIf, IsEdgeChain}
use Rattle.ov_history.specs.Chains.{IsSurfaceChain, graph_of}
use Rattle.ov_history.specs.Keys.{AreTrueEdges, AreTrueTokens}
use Rattle.ov_history.specs.Layers.{root_of}
use Rattle.ov_history.specs.Masters.{Masters, access_key}
use Rattle.ov_history.specs.Rewrites.{surface_key}
use Rattle.ov_client.specs.Readers.{surface_along}

-- a path leads to the label of its end
path_label : (kind : Kind) (graph : Contents) (from to : ℕ) (steps : List Step)
    → IsPath kind graph from to steps
    → last_label (label_of kind from) steps ≡ label_of kind to
path_label kind graph from to [] path = ap (label_of kind) path
path_label kind graph from to (step ∷ steps) (near, first, path) =
    ap (λ (s : Step). last_label s.to steps) first.leads ∙ path_label kind graph near to steps path

sealed_edges : (kind : Kind) (master : List ℕ) (nodes : Nodes) → AreTrueEdges kind master nodes
    → IsSealed kind master (graph_of nodes)
sealed_edges kind master nodes edges to edge there = ap (λ (t : Token). t.bytes)
    (edges to edge there)

-- over true edges a chain leads to the key of its node
edge_chain_leads : (kind : Kind) (master : List ℕ) (nodes : Nodes) (user node : ℕ) (chain : Chain)
    → AreTrueEdges kind master nodes → IsEdgeChain kind nodes user node chain
    → walked (node_key kind master chain.root) chain.steps ≡ node_key kind master node
edge_chain_leads kind master nodes user node chain edges is =
    walked-path kind master (graph_of nodes) chain.root node chain.steps
    (sealed_edges kind master nodes edges)
    (chosen_path kind (graph_of nodes) chain.root node is.1.edges chain.steps is.1.chosen)

access_by_edges : (k : Masters) (c : Catalogue) (user node : ℕ) (chain : Chain)
    → AreTrueTokens k c → IsEdgeChain Derive c.base user node chain
    → access_along (node_key Derive k.base chain.root) chain ≡ access_key k.base node
access_by_edges k c user node chain tokens is =
    let end : last_label (label_of Derive chain.root) chain.steps ≡ label_of Derive node =
    path_label Derive (graph_of c.base) chain.root node chain.steps
    (chosen_path Derive (graph_of c.base) chain.root node is.1.edges chain.steps is.1.chosen) in
    ap (λ (l : Label). access_from l.kind (walked (node_key Derive k.base chain.root) chain.steps))
    end
    ∙ ap access_key_of (edge_chain_leads Derive k.base c.base user node chain tokens.base is)

access_by_token : (k : Masters) (c : Catalogue) (user node : ℕ) (chain : Chain)
    → AreTrueTokens k c → IsAccessChain c.base c.grants user node chain
    → access_along (node_key Derive k.base chain.root) chain ≡ access_key k.base node
access_by_token k c user node chain tokens (token, there, is) =
    let root : ℕ = root_of c.base.sets user in
    let same : token ≡ access_token k.base root node =
    tokens.grants (record { user = user; node = node; token = token }) there in
    ap (λ (d : Chain). access_along (node_key Derive k.base d.root) d) is
    ∙ ap
    (λ (t : Token). derived_key (node_key Derive k.base root) (label_of AccessLabels node) t.bytes)
    same
    ∙ access_leads k.base k.surface root node

-- every base chain leads to the access key of its node
pub base_chain_leads : (k : Masters) (c : Catalogue) (user node : ℕ) (chain : Chain)
    → AreTrueTokens k c → IsBaseChain c.base c.grants user node chain
    → access_along (node_key Derive k.base chain.root) chain ≡ access_key k.base node
base_chain_leads k c user node chain tokens is =
    by_set (has (slice_index c.base.sets node) user) is where
      by_set : (b : Bool) → IsBaseChainIf b c.base c.grants user node chain
          → access_along (node_key Derive k.base chain.root) chain ≡ access_key k.base node
      by_set true edges = access_by_edges k c user node chain tokens edges
      by_set false access = access_by_token k c user node chain tokens access

-- the surface chain, where there is one, begins at this root
abbrev pub BeginsAt : ℕ → Option Chain → Type 0
BeginsAt root None = Unit {0}
BeginsAt root (Some chain) = chain.root ≡ root

-- the surface chain leads to the key of the surface, where the file has one
pub surface_chain_leads : (k : Masters) (c : Catalogue) (user root : ℕ) (surface : Option ℕ)
    (chain : Option Chain)
    → AreTrueTokens k c → BeginsAt root chain → IsSurfaceChain c.surface user surface chain
    → surface_along (node_key Surface k.surface root) chain ≡ surface_key k.surface surface
surface_chain_leads k c user root None None tokens begins is = refl
surface_chain_leads k c user root None (Some chain) tokens begins is = absurd is
surface_chain_leads k c user root (Some node) None tokens begins is = absurd is
surface_chain_leads k c user root (Some node) (Some chain) tokens begins is =
    ap Some
    (ap (λ (n : ℕ). walked (node_key Surface k.surface n) chain.steps) (sym begins)
    ∙ edge_chain_leads Surface k.surface c.surface user node chain tokens.surface is)
