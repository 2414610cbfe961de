-- A user's chains to a file are the only ones.
use Rattle.std.proofs.Common.{◌≡◌, ◌∙◌, ◌<◌, ℕ, zero, suc, Bool, true, false, List, [], ◌∷◌, length, take}
use Rattle.std.proofs.Common.{refl, sym, ap, subst, inl, inr, arith}
use Rattle.std.specs.Prelude.{Contains, Option, Some, None, get_or, slice_get, slice_index}
use Rattle.std.proofs.lemmas.Bool.{cases_order}
use Rattle.std.proofs.lemmas.List.{get_or_default}
use Rattle.ov_base.specs.Sets.{has}
use Rattle.ov_tokens.specs.declared.chain.Chain.{Chain}
use Rattle.ov_tokens.specs.declared.chain.Step.{Step}
use Rattle.ov_tokens.specs.declared.label.Kind.{Kind}
use Rattle.ov_tokens.specs.declared.label.Kind.TheVariants.{Derive, Access, Surface}
use Rattle.ov_tokens.specs.declared.token.Token.{Token}
use Rattle.ov_tokens.specs.Labels.{label_of}
use Rattle.ov_graph.specs.Chain.{IsChain}
use Rattle.ov_chain.proofs.ShortestPaths.{one_chain}
use Rattle.ov_base_layer.specs.declared.grant.Grant.{Grant}
use Rattle.ov_base_layer.specs.Holders.{Access as Given, AreFirst, access_of, accesses_of}
use Rattle.ov_base_layer.proofs.HolderLaws.{holders_are}
use Rattle.ov_history.specs.Layers.{root_of}
use Rattle.ov_history.specs.Catalogue.{Catalogue, Nodes, filed_at}
use Rattle.ov_wire.specs.declared.answer.Chained.{Chained}
use Rattle.ov_history.specs.Chains.{IsAccessChain, IsBaseChainIf, IsEdgeChain}
use Rattle.ov_history.specs.Chains.{IsSurfaceChain, graph_of}
use Rattle.ov_protocol.specs.Reading.{IsChainedFor}

edges_once : (kind : Kind) (nodes : Nodes) (user node : ℕ) (one other : Chain)
    → IsEdgeChain kind nodes user node one → IsEdgeChain kind nodes user node other → one ≡ other
edges_once kind nodes user node one other p q =
    let roots : other.root ≡ one.root = q.0 ∙ sym p.0 in
    let again : IsChain kind (graph_of nodes) one.root node other.steps =
    subst (λ root. IsChain kind (graph_of nodes) root node other.steps) roots q.1 in
    let steps : one.steps ≡ other.steps =
    one_chain kind (graph_of nodes) (graph_of nodes) one.root node one.steps other.steps refl refl
    p.1 again in
    ap (λ (s : List Step). record { root = one.root; steps = s }) steps
    ∙ ap (λ root. record { root = root; steps = other.steps }) (sym roots)

-- ---- access tokens

-- the access of a grant at its place
given_at : (grants : List Grant) (n : ℕ) (grant : Grant) → n < length grants
    → get_or grants n grant ≡ grant → slice_get (accesses_of grants) n ≡ Some (access_of grant)
given_at [] n grant inside is = absurd (omega arith)
given_at (first ∷ grants) zero grant inside is = ap (λ g. Some (access_of g)) is
given_at (first ∷ grants) (suc n) grant inside is = given_at grants n grant (omega arith) is

-- the access of a grant is among those before a later place
given_before : (grants : List Grant) (m n : ℕ) (grant : Grant) → m < n → m < length grants
    → get_or grants m grant ≡ grant → Contains (take n (accesses_of grants)) (access_of grant)
given_before [] m n grant before inside is = absurd (omega arith)
given_before (first ∷ grants) m zero grant before inside is = absurd (omega arith)
given_before (first ∷ grants) zero (suc n) grant before inside is =
    (0, omega arith, ap access_of is)
given_before (first ∷ grants) (suc m) (suc n) grant before inside is =
    let (k, below, same) = given_before grants m n grant (omega arith) (omega arith) is in
    (suc k, omega arith, same)

-- no user was given access to a node twice
not_before : (limit : ℕ) (sets : List ℕ) (grants : List Grant) (m n : ℕ) (one other : Grant)
    → AreFirst limit sets (accesses_of grants) → access_of one ≡ access_of other → m < n
    → m < length grants → get_or grants m one ≡ one
    → n < length grants → get_or grants n other ≡ other → ⊥
not_before limit sets grants m n one other are same before at_m is_m at_n is_n =
    let there : Contains (take n (accesses_of grants)) (access_of other) =
    subst (λ (a : Given). Contains (take n (accesses_of grants)) a) same
    (given_before grants m n one before at_m is_m) in
    are.first n (access_of other) (given_at grants n other at_n is_n)
    ((holders_are sets (take n (accesses_of grants)) other.node other.user).1 (inr there))

at_one_place : (grants : List Grant) (m n : ℕ) (one other : Grant) → m ≡ n → m < length grants
    → get_or grants m one ≡ one → get_or grants n other ≡ other → one ≡ other
at_one_place grants m n one other equal inside is_m is_n =
    sym is_m ∙ get_or_default grants m one other inside
    ∙ ap (λ place. get_or grants place other) equal ∙ is_n

same_grant : (limit : ℕ) (sets : List ℕ) (grants : List Grant) (one other : Grant)
    → AreFirst limit sets (accesses_of grants) → access_of one ≡ access_of other
    → Contains grants one → Contains grants other → one ≡ other
same_grant limit sets grants one other are same (m, at_m, is_m) (n, at_n, is_n) =
    elim (cases_order m n) [
      | inl equal ↦ at_one_place grants m n one other equal at_m is_m is_n
      | inr apart ↦ elim apart [
        | inl before ↦
            absurd (not_before limit sets grants m n one other are same before at_m is_m at_n is_n)
        | inr after ↦
            absurd (not_before limit sets grants n m other one are (sym same) after at_n is_n
            at_m is_m)
      ]
    ]

access_once : (limit : ℕ) (nodes : Nodes) (grants : List Grant) (user node : ℕ) (one other : Chain)
    → AreFirst limit nodes.sets (accesses_of grants)
    → IsAccessChain nodes grants user node one → IsAccessChain nodes grants user node other
    → one ≡ other
access_once limit nodes grants user node one other are (t, there, is) (u, again, is_other) =
    let tokens : t ≡ u =
    ap (λ (g : Grant). g.token)
    (same_grant limit nodes.sets grants (record { user = user; node = node; token = t })
    (record { user = user; node = node; token = u }) are refl there again) in
    is
    ∙ ap (λ (token : Token). record {
      root = root_of nodes.sets user;
      steps = record { to = label_of Access node; token = token } ∷ [];
    }) tokens
    ∙ sym is_other

-- ---- both chains

base_once_if : (b : Bool) (limit : ℕ) (nodes : Nodes) (grants : List Grant) (user node : ℕ)
    (one other : Chain)
    → AreFirst limit nodes.sets (accesses_of grants)
    → IsBaseChainIf b nodes grants user node one → IsBaseChainIf b nodes grants user node other
    → one ≡ other
base_once_if true limit nodes grants user node one other are p q =
    edges_once Derive nodes user node one other p q
base_once_if false limit nodes grants user node one other are p q =
    access_once limit nodes grants user node one other are p q

surface_once : (nodes : Nodes) (user : ℕ) (surface : Option ℕ) (one other : Option Chain)
    → IsSurfaceChain nodes user surface one → IsSurfaceChain nodes user surface other → one ≡ other
surface_once nodes user None None None p q = refl
surface_once nodes user None None (Some other) p q = absurd q
surface_once nodes user None (Some one) other p q = absurd p
surface_once nodes user (Some node) None other p q = absurd p
surface_once nodes user (Some node) (Some one) None p q = absurd q
surface_once nodes user (Some node) (Some one) (Some other) p q =
    ap Some (edges_once Surface nodes user node one other p q)

pub chained_once : (limit : ℕ) (c : Catalogue) (user file : ℕ) (one other : Chained)
    → AreFirst limit c.base.sets (accesses_of c.grants)
    → IsChainedFor c user file one → IsChainedFor c user file other → one ≡ other
chained_once limit c user file one other are p q =
    let node : ℕ = (filed_at c file).node in
    let epoch : one.epoch ≡ other.epoch = p.epoch ∙ sym q.epoch in
    let number : one.file ≡ other.file = p.file ∙ sym q.file in
    let bytes : one.length ≡ other.length = p.length ∙ sym q.length in
    let generation : one.generation ≡ other.generation = p.generation ∙ sym q.generation in
    let tag : one.tag ≡ other.tag = p.tag ∙ sym q.tag in
    let base : one.base ≡ other.base =
    base_once_if (has (slice_index c.base.sets node) user) limit c.base c.grants user node
    one.base other.base are p.base q.base in
    let surface : one.surface ≡ other.surface =
    surface_once c.surface user (filed_at c file).surface one.surface other.surface p.surface
    q.surface in
    let same : one ≡ other =
    λ i. record {
      epoch = epoch i;
      file = number i;
      length = bytes i;
      generation = generation i;
      tag = tag i;
      base = base i;
      surface = surface i;
    } in
    same
