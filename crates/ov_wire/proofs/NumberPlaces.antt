-- Wrong places of the numbers and chains in answers.
use Rattle.std.proofs.Common.{◌≡◌, ℕ, ◌+◌, ◌-◌, ◌^◌, ◌<◌, ◌≤◌, Bool, true, false, cond, eqb, List, [], ◌∷◌, length, inl, refl, sym, subst, arith}
use Rattle.std.specs.Int.{w32}
use Rattle.std.specs.List.{flat_map, AllByRecursion}
use Rattle.ov_base.specs.declared.limits.TheConstants.{MAX_LAYER_NODES}
use Rattle.ov_base.specs.declared.refusal.Refusal.{Refusal}
use Rattle.ov_base.specs.declared.refusal.Refusal.TheVariants.{Taken, NoUser, NoFile, NoPath, Listed, NotListed, UsersFull, FilesFull, BytesFull, NodesFull, Spent}
use Rattle.ov_base.specs.Refusals.{refusal_number}
use Rattle.ov_tokens.specs.declared.label.Kind.{Kind}
use Rattle.ov_tokens.specs.declared.label.Kind.TheVariants.{Derive, Access, Surface}
use Rattle.ov_tokens.specs.Labels.{tag_of}
use Rattle.ov_fields.specs.Spelling.{u32, counted, IsOneOf}
use Rattle.ov_fields.specs.Reading.{at_most, below, between, number_that, one_of_at, many_at}
use Rattle.ov_fields.proofs.ReadingLaws.{then_reads, sized_by}
use Rattle.ov_fields.proofs.FieldLaws.{number_reads, wide16}
use Rattle.ov_fields.proofs.TestLaws.{le_of, lt_of, between_of}
use Rattle.ov_fields.proofs.PlaceLaws.{HasPlaces}
use Rattle.ov_fields.proofs.JoinPlaces.{then_places, given_places, made_places, refit_places}
use Rattle.ov_fields.proofs.FieldPlaces.{number_places, one_of_places}
use Rattle.ov_fields.proofs.LimitPlaces.{u32_places, at_most_limits, below_limits, between_limits}
use Rattle.ov_fields.proofs.ListPlaces.{many_places, token_places}
use Rattle.ov_wire.specs.AnswerReading.{greater_at, next_at}
use Rattle.ov_wire.specs.Chains.{step_field, chain_field, IsStep, AreSteps, IsChain, step, step_at, steps_at, chain, chain_at, base_kinds, surface_kinds}
use Rattle.ov_wire.specs.Entries.{IsNode, node_at}
use Rattle.ov_wire.proofs.ChainLaws.{step_reads}
use Rattle.ov_wire.proofs.NumberLaws.{node_reads, kind_reads}

-- ---- numbers

pub at_most_places : {Once Limited : Type 0} (most : ℕ) → most < 2 ^ 32 → Limited → HasPlaces Once Limited (number_that w32 (at_most most)) u32 (λ n. n ≤ most)
at_most_places most small limited = refit_places (λ n. n ≤ most) (u32_places (at_most most) 0 most limited (at_most_limits most (2 ^ 32) small)) (λ n h. le_of most n h.1)

pub below_places : {Once Limited : Type 0} (limit : ℕ) → 1 ≤ limit → limit ≤ 2 ^ 32 → Limited → HasPlaces Once Limited (number_that w32 (below limit)) u32 (λ n. n < limit)
below_places limit some small limited = refit_places (λ n. n < limit) (u32_places (below limit) 0 (limit - 1) limited (below_limits limit (2 ^ 32) some small)) (λ n h. lt_of limit n h.1)

pub node_places : {Once Limited : Type 0} → Limited → HasPlaces Once Limited node_at u32 IsNode
node_places limited = below_places MAX_LAYER_NODES (omega arith) (omega arith) limited

pub greater_places : {Once Limited : Type 0} (n : ℕ) → n < 4294967295 → Limited → HasPlaces Once Limited (greater_at n) u32 (λ k. (n < k) × (k < 2 ^ 32))
greater_places n small limited =
    refit_places (λ k. (n < k) × (k < 2 ^ 32)) (u32_places (between (n + 1) 4294967295) (n + 1) 4294967295 limited (between_limits (n + 1) 4294967295 (2 ^ 32) (omega arith) (omega arith)))
    (λ k h. let b = between_of (n + 1) 4294967295 k h.1 in (omega (arith, b.0), h.0))

pub next_places : {Once Limited : Type 0} (n : ℕ) → n < 4294967295 → Limited → HasPlaces Once Limited (next_at n) u32 (λ k. (k ≡ n + 1) × (k < 2 ^ 32))
next_places n small limited =
    refit_places (λ k. (k ≡ n + 1) × (k < 2 ^ 32)) (u32_places (between (n + 1) (n + 1)) (n + 1) (n + 1) limited (between_limits (n + 1) (n + 1) (2 ^ 32) (omega arith) (omega arith)))
    (λ k h. let b = between_of (n + 1) (n + 1) k h.1 in (omega (arith, b.0, b.1), h.0))

-- ---- bytes that tell a value

small_refusal : (r : Refusal) → refusal_number r < 256
small_refusal Taken = omega arith
small_refusal NoUser = omega arith
small_refusal NoFile = omega arith
small_refusal NoPath = omega arith
small_refusal Listed = omega arith
small_refusal NotListed = omega arith
small_refusal UsersFull = omega arith
small_refusal FilesFull = omega arith
small_refusal BytesFull = omega arith
small_refusal NodesFull = omega arith
small_refusal Spent = omega arith

pub refusal_places : {Once Limited : Type 0} (values : List Refusal) (r : Refusal) → IsOneOf r values → HasPlaces Once Limited (one_of_at refusal_number values) (λ r. refusal_number r ∷ []) (λ r. IsOneOf r values)
refusal_places values r is = one_of_places refusal_number values r is (small_refusal r)

small_kind : (k : Kind) → tag_of k < 256
small_kind Derive = omega arith
small_kind Access = omega arith
small_kind Surface = omega arith

-- ---- chains

step_places : {Once Limited : Type 0} → Limited → (kinds : List Kind) (k : Kind) → IsOneOf k kinds → HasPlaces Once Limited (step_at kinds) step_field (IsStep kinds)
step_places limited kinds k is =
    made_places step step_field (IsStep kinds)
    (then_places (then_reads (kind_reads kinds) node_reads) (then_places (kind_reads kinds) (one_of_places tag_of kinds k is (small_kind k)) (node_places limited)) token_places)
    (λ f fits. (fits.0.0, fits.0.1, fits.1)) (λ f fits. refl)

-- each number of steps has a kind
abbrev pub HasKinds : (ℕ → List Kind) → Type 0
HasKinds kinds = (n : ℕ) → (k : Kind) × IsOneOf k (kinds n)

kind_by : (b : Bool) → (k : Kind) × IsOneOf k (cond b (Derive ∷ Access ∷ []) (Derive ∷ []))
kind_by true = (Derive, inl refl)
kind_by false = (Derive, inl refl)

pub base_has : HasKinds base_kinds
base_has n = kind_by (eqb n 1)

pub surface_has : HasKinds surface_kinds
surface_has n = (Surface, inl refl)

steps_places : {Once Limited : Type 0} → Limited → (kinds : ℕ → List Kind) → HasKinds kinds → HasPlaces Once Limited (steps_at kinds) (counted step_field) (AreSteps kinds)
unfolding steps_at
steps_places limited kinds has =
    given_places (λ n. many_at (step_at (kinds n)) n) (flat_map step_field) (λ steps. AllByRecursion (IsStep (kinds (length steps))) steps) length (number_reads wide16) (number_places wide16)
    (λ n small.
    let k = has n in
    refit_places (sized_by (λ steps. AllByRecursion (IsStep (kinds (length steps))) steps) length n)
    (many_places (step_reads (kinds n)) (step_places limited (kinds n) k.0 k.1) n)
    (λ steps fits. (subst (λ (j : ℕ). AllByRecursion (IsStep (kinds j)) steps) (sym fits.1) fits.0, fits.1)))

pub chain_places : {Once Limited : Type 0} → Limited → (kinds : ℕ → List Kind) → HasKinds kinds → HasPlaces Once Limited (chain_at kinds) chain_field (IsChain kinds)
chain_places limited kinds has = made_places chain chain_field (IsChain kinds) (then_places node_reads (node_places limited) (steps_places limited kinds has)) (λ f fits. fits) (λ f fits. refl)
