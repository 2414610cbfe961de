-- The laws of holders and of tokens.
use Rattle.std.specs.Prelude.{◌≡◌, ℕ, ◌==◌, ◌<◌, List, [], ◌∷◌, ◌++◌, length, Contains}
use Rattle.ov_base.specs.Sets.{Has}
use Rattle.ov_tokens.specs.declared.edge.Edge.{Edge}
use Rattle.ov_tokens.specs.declared.label.Kind.{Kind}
use Rattle.ov_tokens.specs.declared.label.Kind.TheVariants.{Derive, Access as AccessLabels}
use Rattle.ov_tokens.specs.Keys.{derived_key, key_of_label, node_key}
use Rattle.ov_tokens.specs.Labels.{label_of}
use Rattle.ov_graph.specs.declared.cover.Cover.{Cover}
use Rattle.ov_graph.specs.Contents.{joined}
use Rattle.ov_base_layer.specs.Holders.{Access, holders_in, with_if}
use Rattle.ov_base_layer.specs.Seals.{access_token, cover_tokens, edge_token}

-- a node that is there keeps its holders when a set is added
abbrev pub SetsChangeNoHolders : Type 0
SetsChangeNoHolders =
    (sets : List ℕ) (set : ℕ) (accesses : List Access) (node : ℕ)
    → node < length sets
    → holders_in (sets ++ set ∷ []) accesses node ≡ holders_in sets accesses node

-- one more access makes its user a holder of its node, and changes nothing else
abbrev pub AccessAddsItsUser : Type 0
AccessAddsItsUser =
    (sets : List ℕ) (accesses : List Access) (access : Access) (node : ℕ)
    → holders_in sets (accesses ++ access ∷ []) node
    ≡ with_if (access.node == node) (holders_in sets accesses node) access.user

-- an access that is given to a holder again changes nothing
abbrev pub AgainChangesNothing : Type 0
AgainChangesNothing =
    (sets : List ℕ) (accesses : List Access) (access : Access) (node : ℕ)
    → Has (holders_in sets accesses access.node) access.user
    → holders_in sets (accesses ++ access ∷ []) node ≡ holders_in sets accesses node

-- each edge that a cover makes has the token from the key of its start to the key of the cover's
-- node
abbrev pub CoversAreSealed : Type 0
CoversAreSealed =
    (kind : Kind) (master : List ℕ) (cover : Cover) (edge : Edge)
    → Contains (joined cover.from (cover_tokens kind master cover)) edge
    → edge.token ≡ edge_token kind master edge.from cover.node

-- over the token of an edge the key of its start leads to the key of its end
abbrev pub EdgesLead : Type 0
EdgesLead =
    (kind : Kind) (master : List ℕ) (from to : ℕ)
    → derived_key (node_key kind master from) (label_of kind to)
    (edge_token kind master from to).bytes
    ≡ node_key kind master to

-- over an access token the derivation key of the root leads to the access key of the node
abbrev pub AccessesLead : Type 0
AccessesLead =
    (base surface : List ℕ) (root node : ℕ) → let to = label_of AccessLabels node in
    derived_key (key_of_label base surface (label_of Derive root)) to
    (access_token base root node).bytes
    ≡ key_of_label base surface to
