-- Where a chain of tokens leads.
use Rattle.std.specs.Prelude.{ℕ, ◌≡◌, List, [], ◌∷◌, Contains}
use Rattle.ov_tokens.specs.declared.chain.Chain.{Chain}
use Rattle.ov_tokens.specs.declared.label.Kind.{Kind}
use Rattle.ov_tokens.specs.declared.label.Kind.TheVariants.{Derive, Access, Surface}
use Rattle.ov_tokens.specs.declared.label.Label.{Label}
use Rattle.ov_tokens.specs.declared.edge.Edge.{Edge}
use Rattle.ov_tokens.specs.declared.chain.Step.{Step}
use Rattle.ov_tokens.specs.Keys.{access_key_of, derived_key, key_of_label, node_key, token_of}
use Rattle.ov_tokens.specs.Labels.{label_of}
use Rattle.ov_graph.specs.Contents.{Contents, edges_to}

-- the key at the end of the steps: each step derives the next key from the one before it
abbrev pub walked : List ℕ → List Step → List ℕ
walked key [] = key
walked key (step ∷ steps) = walked (derived_key key step.to step.token.bytes) steps

-- the label of the last step, or the one that the steps start from
abbrev pub last_label : Label → List Step → Label
last_label from [] = from
last_label from (step ∷ steps) = last_label step.to steps

-- the access key of a node, from the key of a label of this kind
abbrev pub access_from : Kind → List ℕ → List ℕ
access_from Derive key = access_key_of key
access_from Access key = key
access_from Surface key = key

-- the access key to which a base chain leads, from the derivation key of its root
abbrev pub access_along : List ℕ → Chain → List ℕ
access_along key chain =
    access_from (last_label (label_of Derive chain.root) chain.steps).kind (walked key chain.steps)

-- under the two masters each token is the one from the key of the label before it to the key of its
-- own label
abbrev pub AreTrue : List ℕ → List ℕ → Label → List Step → Type 0
AreTrue base surface from [] = Unit {0}
AreTrue base surface from (step ∷ steps) =
    (step.token.bytes
    ≡ token_of (key_of_label base surface from) step.to (key_of_label base surface step.to))
    × AreTrue base surface step.to steps

-- the tokens of these edges, which lead to the node, are those from the keys of their starts to the
-- node's key, under the master of the layer
abbrev pub AreSealed : Kind → List ℕ → ℕ → List Edge → Type 0
AreSealed kind master node edges =
    (edge : Edge) → Contains edges edge
    → edge.token.bytes
    ≡ token_of (node_key kind master edge.from) (label_of kind node) (node_key kind master node)

-- the tokens of all edges of the graph are those from the keys of their starts to those of their
-- ends
abbrev pub IsSealed : Kind → List ℕ → Contents → Type 0
IsSealed kind master graph = (node : ℕ) → AreSealed kind master node (edges_to graph node)
