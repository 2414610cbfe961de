-- What is in a list.
use Rattle.std.proofs.Common.{ℕ, zero, suc, ◌≡◌, ◌≢◌, ◌<◌, ◌≤◌, ◌+◌, Bool, true, false, cond, not, ◌==◌, List, [], ◌∷◌, length, get_or, refl, arith, ◌⊎◌, inl, inr, Some, None, eq-eqb, eqb-true}
use Rattle.std.specs.Prelude.{Contains, filter, nat_lt}
use Rattle.std.specs.List.{position_or_len}
use Rattle.std.proofs.lemmas.Bool.{ne_eqb}
use Rattle.std.proofs.lemmas.Bool.Decides.{nat_tests}
use Rattle.std.proofs.lemmas.List.Quantifiers.{position-Some}
use Rattle.ov_graph.specs.Cover.{put_if}
use Rattle.ov_graph.specs.Contents.{node_of}

pub Contains-first : {X : Type 0} (x : X) (xs : List X) → Contains (x ∷ xs) x
Contains-first x xs = (0, omega arith, refl)

pub Contains-later : {X : Type 0} (y : X) (xs : List X) (x : X) → Contains xs x → Contains (y ∷ xs) x
Contains-later y xs x (k, h, e) = (suc k, omega arith, e)

pub Contains-cases : {X : Type 0} (y : X) (xs : List X) (x : X) → Contains (y ∷ xs) x
    → (y ≡ x) ⊎ Contains xs x
Contains-cases y xs x (zero, h, e) = inl e
Contains-cases y xs x (suc k, h, e) = inr (k, omega arith, e)

pub Contains-none : {X : Type 0} (x : X) → Contains [] x → ⊥
Contains-none x (k, h, e) = omega arith

-- a list that contains nothing has no items
pub nothing_in : (xs : List ℕ) → ((x : ℕ) → Contains xs x → ⊥) → xs ≡ []
nothing_in [] h = refl
nothing_in (x ∷ xs) h = absurd (h x (Contains-first x xs))

-- an item of a list of numbers is at some place
pub Contains-place : (xs : List ℕ) (x : ℕ) → Contains xs x
    → (k : ℕ) × (k < length xs) × (get_or xs k 0 ≡ x)
Contains-place [] x h = absurd (Contains-none x h)
Contains-place (y ∷ xs) x h = elim (Contains-cases y xs x h) [
  | inl e ↦ (0, omega arith, e)
  | inr there ↦ let r = Contains-place xs x there in (suc r.0, omega (arith, r.1), r.2)
]

pub place-Contains : (xs : List ℕ) (k x : ℕ) → k < length xs → get_or xs k 0 ≡ x → Contains xs x
place-Contains [] k x h e = absurd (omega arith)
place-Contains (y ∷ xs) zero x h e = (0, omega arith, e)
place-Contains (y ∷ xs) (suc k) x h e = Contains-later y xs x (place-Contains xs k x (omega arith) e)

-- ---- items that are put in front, and items that are kept

pub Contains-put_if : (b : Bool) (y : ℕ) (xs : List ℕ) (x : ℕ) → Contains (put_if b y xs) x
    → ((b ≡ true) × (y ≡ x)) ⊎ Contains xs x
Contains-put_if true y xs x h = elim (Contains-cases y xs x h) [ inl e ↦ inl (refl, e) | inr there ↦ inr there ]
Contains-put_if false y xs x h = inr h

pub put_if-first : (b : Bool) (x : ℕ) (xs : List ℕ) → b ≡ true → Contains (put_if b x xs) x
put_if-first b x xs e = rw e (Contains-first x xs)

pub put_if-later : (b : Bool) (y : ℕ) (xs : List ℕ) (x : ℕ) → Contains xs x → Contains (put_if b y xs) x
put_if-later true y xs x h = Contains-later y xs x h
put_if-later false y xs x h = h

pub Contains-filter : (p : ℕ → Bool) (xs : List ℕ) (x : ℕ) → Contains (filter p xs) x → Contains xs x
Contains-filter p [] x h = h
Contains-filter p (y ∷ xs) x h = elim (p y) as (λ b. Contains (cond b (y ∷ filter p xs) (filter p xs)) x → Contains (y ∷ xs) x) [
  | true ↦ λ k. elim (Contains-cases y (filter p xs) x k) [
    | inl e ↦ (0, omega arith, e)
    | inr there ↦ Contains-later y xs x (Contains-filter p xs x there)
  ]
  | false ↦ λ k. Contains-later y xs x (Contains-filter p xs x k)
] h

pub filter-Contains : (p : ℕ → Bool) (xs : List ℕ) (x : ℕ) → Contains xs x → p x ≡ true
    → Contains (filter p xs) x
filter-Contains p [] x h t = h
filter-Contains p (y ∷ xs) x h t = elim (Contains-cases y xs x h) [
  | inl e ↦ let u : p y ≡ true = rw e t in rw u (0, omega arith, e)
  | inr there ↦ elim (p y) as (λ b. Contains (cond b (y ∷ filter p xs) (filter p xs)) x) [
    | true ↦ Contains-later y (filter p xs) x (filter-Contains p xs x there t)
    | false ↦ filter-Contains p xs x there t
  ]
]

-- ---- the node of a set

first_node : (sets : List ℕ) (set : ℕ) → length sets ≤ position_or_len (λ s. s == set) sets → (k : ℕ)
    → k < length sets → get_or sets k 0 ≢ set
first_node [] set long k h e = omega arith
first_node (s ∷ sets) set long k h e = elim (s == set) as (λ b. (s == set) ≡ b → length (s ∷ sets) ≤ cond (not b) (1 + position_or_len (λ s. s == set) sets) 0 → ⊥) [
  | true ↦ λ t long. omega arith
  | false ↦ λ t long. elim k as (λ k. k < length (s ∷ sets) → get_or (s ∷ sets) k 0 ≡ set → ⊥) [
    | zero ↦ λ h e. grind (arith, nat_tests)
    | suc k ↦ λ h e. first_node sets set (omega arith) k (omega arith) e
  ] h e
] refl long

-- no node has a set that is new
pub node_none : (sets : List ℕ) (set : ℕ) → node_of sets set ≡ None → (k : ℕ) → k < length sets
    → get_or sets k 0 ≢ set
node_none sets set new = first_node sets set (elim (nat_lt (position_or_len (λ s. s == set) sets) (length sets)) as (λ b. nat_lt (position_or_len (λ s. s == set) sets) (length sets) ≡ b → cond b (Some (position_or_len (λ s. s == set) sets)) None ≡ None → length sets ≤ position_or_len (λ s. s == set) sets) [
  | true ↦ λ t e. absurd (cc)
  | false ↦ λ t e. grind (arith, nat_tests)
] refl new)

-- a node that is found for a set is there, and has the set
pub node_some : (sets : List ℕ) (set node : ℕ) → node_of sets set ≡ Some node
    → (node < length sets) × (get_or sets node 0 ≡ set)
node_some sets set node e =
    let found = position-Some (λ s. s == set) sets node 0 e in
    (found.0, eqb-true _ _ found.1)

-- the first node that has the set
pub first_is : (sets : List ℕ) (set n : ℕ) → n < length sets → get_or sets n 0 ≡ set
    → ((k : ℕ) → k < n → get_or sets k 0 ≢ set) → node_of sets set ≡ Some n
first_is sets set n h e before =
    let place = place_is sets set n h e before in
    rw place (elim (nat_lt n (length sets)) as (λ b. nat_lt n (length sets) ≡ b → cond b (Some n) None ≡ Some n) [
      | true ↦ λ t. refl
      | false ↦ λ t. absurd (grind (arith, nat_tests))
    ] refl) where
      place_is : (sets : List ℕ) (set n : ℕ) → n < length sets → get_or sets n 0 ≡ set
          → ((k : ℕ) → k < n → get_or sets k 0 ≢ set) → position_or_len (λ s. s == set) sets ≡ n
      place_is [] set n h e before = absurd (omega arith)
      place_is (s ∷ sets) set zero h e before = rw (eq-eqb s set e) refl
      place_is (s ∷ sets) set (suc n) h e before =
          rw (ne_eqb s set (before 0 (omega arith)), place_is sets set n (omega arith) e (λ k l. before (suc k) (omega arith))) (omega arith)

-- no node
pub none_is : (sets : List ℕ) (set : ℕ) → ((k : ℕ) → k < length sets → get_or sets k 0 ≢ set)
    → node_of sets set ≡ None
none_is sets set none =
    rw (place_past sets set none) (elim (nat_lt (length sets) (length sets)) as (λ b. nat_lt (length sets) (length sets) ≡ b → cond b (Some (length sets)) None ≡ None) [
      | true ↦ λ t. absurd (grind (arith, nat_tests))
      | false ↦ λ t. refl
    ] refl) where
      place_past : (sets : List ℕ) (set : ℕ) → ((k : ℕ) → k < length sets → get_or sets k 0 ≢ set)
          → position_or_len (λ s. s == set) sets ≡ length sets
      place_past [] set none = refl
      place_past (s ∷ sets) set none =
          rw (ne_eqb s set (none 0 (omega arith)), place_past sets set (λ k h. none (suc k) (omega arith))) (omega arith)
