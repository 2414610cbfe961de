-- The laws of the tokens that are sealed.
use Rattle.std.proofs.Common.{◌≡◌, ℕ, List, [], ◌∷◌, map, refl, subst, inl, inr}
use Rattle.std.specs.Prelude.{Contains}
use Rattle.sha2.proofs.Facts256.{length-sha256}
use Rattle.ov_tokens.specs.declared.edge.Edge.{Edge}
use Rattle.ov_tokens.specs.declared.label.Kind.{Kind}
use Rattle.ov_tokens.specs.declared.label.Kind.TheVariants.{Derive, Access}
use Rattle.ov_tokens.specs.Keys.{access_key_of, derived_key, key_of_label, node_key}
use Rattle.ov_tokens.specs.Labels.{label_of}
use Rattle.ov_tokens.proofs.TokenLemmas.{derived_key-token_of, length-node_key}
use Rattle.ov_graph.specs.declared.cover.Cover.{Cover}
use Rattle.ov_graph.specs.Contents.{joined}
use Rattle.ov_graph.proofs.ListLaws.{Contains-cases, Contains-none}
use Rattle.ov_base_layer.specs.Seals.{access_token, cover_tokens, edge_token}

-- the tokens of edges from these starts
edges_sealed : (kind : Kind) (master : List ℕ) (node : ℕ) (starts : List ℕ) (edge : Edge)
    → Contains (joined starts (map (λ from. edge_token kind master from node) starts)) edge
    → edge.token ≡ edge_token kind master edge.from node
edges_sealed kind master node [] edge there = absurd (Contains-none edge there)
edges_sealed kind master node (start ∷ starts) edge there = elim (Contains-cases _ _ edge there) [
  | inl is ↦ subst (λ (e : Edge). e.token ≡ edge_token kind master e.from node) is refl
  | inr later ↦ edges_sealed kind master node starts edge later
]

pub cover_sealed : (kind : Kind) (master : List ℕ) (cover : Cover) (edge : Edge)
    → Contains (joined cover.from (cover_tokens kind master cover)) edge
    → edge.token ≡ edge_token kind master edge.from cover.node
cover_sealed kind master cover edge there =
    edges_sealed kind master cover.node cover.from edge there

pub edge_leads : (kind : Kind) (master : List ℕ) (from to : ℕ)
    → derived_key (node_key kind master from) (label_of kind to) (edge_token kind master from to).bytes
    ≡ node_key kind master to
edge_leads kind master from to =
    derived_key-token_of (node_key kind master from) (node_key kind master to) (label_of kind to)
    (length-node_key kind master to)

pub access_leads : (base surface : List ℕ) (root node : ℕ)
    → derived_key (key_of_label base surface (label_of Derive root)) (label_of Access node) (access_token base root node).bytes
    ≡ key_of_label base surface (label_of Access node)
access_leads base surface root node =
    derived_key-token_of (node_key Derive base root) (access_key_of (node_key Derive base node)) (label_of Access node)
    (length-sha256 (node_key Derive base node))
