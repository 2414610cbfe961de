-- Where chains of true tokens lead.
use Rattle.std.proofs.Common.{ℕ, zero, suc, ◌+◌, ◌≡◌, List, [], ◌∷◌, length, get_or, refl, ◌∙◌, ap, arith}
use Rattle.ov_keyed.proofs.HmacLemmas.{length-hmac}
use Rattle.ov_tokens.specs.declared.chain.Chain.{Chain}
use Rattle.ov_tokens.specs.declared.label.Kind.{Kind}
use Rattle.ov_tokens.specs.declared.label.Kind.TheVariants.{Derive}
use Rattle.ov_tokens.specs.declared.label.Label.{Label}
use Rattle.ov_tokens.specs.declared.chain.Step.{Step}
use Rattle.ov_tokens.specs.Keys.{derived_key, key_of_label, node_key, token_of}
use Rattle.ov_tokens.specs.Labels.{label_of}
use Rattle.ov_tokens.proofs.TokenLemmas.{derived_key-token_of, length-key_of_label}
use Rattle.ov_graph.specs.Contents.{Contents}
use Rattle.ov_chain.specs.Path.{IsPath}
use Rattle.ov_chain.specs.Walk.{access_along, access_from, walked, last_label, AreTrue, IsSealed}

-- true tokens lead from a label's key to that of the last label
pub walked-true : (base surface : List ℕ) (from : Label) (steps : List Step) → AreTrue base surface from steps
    → walked (key_of_label base surface from) steps ≡ key_of_label base surface (last_label from steps)
walked-true base surface from [] true_ones = refl
walked-true base surface from (step ∷ steps) true_ones =
    let next : derived_key (key_of_label base surface from) step.to step.token.bytes ≡ key_of_label base surface step.to =
    ap (derived_key (key_of_label base surface from) step.to) true_ones.0
    ∙ derived_key-token_of (key_of_label base surface from) (key_of_label base surface step.to) step.to (length-key_of_label base surface step.to) in
    ap (λ k. walked k steps) next ∙ walked-true base surface step.to steps true_ones.1

-- a path of a sealed graph leads from a node's key to that of its end
pub walked-path : (kind : Kind) (master : List ℕ) (graph : Contents) (from to : ℕ) (steps : List Step)
    → IsSealed kind master graph → IsPath kind graph from to steps
    → walked (node_key kind master from) steps ≡ node_key kind master to
walked-path kind master graph from to [] whole path = ap (node_key kind master) path
walked-path kind master graph from to (step ∷ steps) whole (near, first, path) =
    let key : List ℕ = node_key kind master near in
    let token : first.edge.token.bytes ≡ token_of (node_key kind master from) (label_of kind near) key =
    whole near first.edge first.there ∙ ap (λ n. token_of (node_key kind master n) (label_of kind near) key) first.starts in
    let next : derived_key (node_key kind master from) step.to step.token.bytes ≡ key =
    ap (λ (s : Step). derived_key (node_key kind master from) s.to s.token.bytes) first.leads
    ∙ ap (derived_key (node_key kind master from) (label_of kind near)) token
    ∙ derived_key-token_of (node_key kind master from) key (label_of kind near) (length-hmac master _) in
    ap (λ k. walked k steps) next ∙ walked-path kind master graph near to steps whole path

-- ---- the last label

-- the last label is that of the last step
pub last_is : (from : Label) (steps : List Step) (n : ℕ) (d : Step) → n + 1 ≡ length steps
    → (get_or steps n d).to ≡ last_label from steps
last_is from [] n d e = absurd (omega arith)
last_is from (step ∷ []) zero d e = refl
last_is from (step ∷ []) (suc n) d e = absurd (omega arith)
last_is from (step ∷ next ∷ steps) zero d e = absurd (omega arith)
last_is from (step ∷ next ∷ steps) (suc n) d e = last_is step.to (next ∷ steps) n d (omega arith)

-- ---- the access key at the end of a base chain

-- by the kind of its last label and the key at its end
pub access_is : (root_key : List ℕ) (chain : Chain) (kind : Kind) (key : List ℕ)
    → kind ≡ (last_label (label_of Derive chain.root) chain.steps).kind
    → key ≡ walked root_key chain.steps → access_from kind key ≡ access_along root_key chain
access_is root_key chain kind key last end =
    ap (access_from kind) end ∙ ap (λ (k : Kind). access_from k (walked root_key chain.steps)) last
