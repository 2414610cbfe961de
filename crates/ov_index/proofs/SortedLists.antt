-- Lists of nodes in order: two of the same nodes are one.
use Rattle.std.proofs.Common.{ℕ, suc, ◌≡◌, Bool, true, false, cond, List, [], ◌∷◌, ◌++◌, refl, sym, ap₂, subst, arith, inl, inr}
use Rattle.std.specs.Prelude.{Contains, filter}
use Rattle.std.proofs.lemmas.List.Elements.{Contains-append_cases}
use Rattle.ov_graph.proofs.ListLaws.{Contains-first, Contains-later, Contains-cases, Contains-none, Contains-place, Contains-filter}
use Rattle.ov_index.specs.Orders.{Ascends}

module _ (IsTo : ℕ → ℕ → Type 0) where
  -- the first item is related so to each of the others, and these to one another
  abbrev pub Sorted : List ℕ → Type 0
  Sorted [] = Unit {0}
  Sorted (x ∷ xs) = ((y : ℕ) → Contains xs y → IsTo x y) × Sorted xs

  pub ascends-Sorted : (xs : List ℕ) → Ascends IsTo xs → Sorted xs
  ascends-Sorted [] up = tt
  ascends-Sorted (x ∷ xs) up = (
    λ y there. let (k, below, is) = Contains-place xs y there in subst (IsTo x) is (up 0 (suc k) (omega arith) (omega arith)),
    ascends-Sorted xs (λ i j less below. up (suc i) (suc j) (omega arith) (omega arith)),
  )

  pub filter-Sorted : (p : ℕ → Bool) (xs : List ℕ) → Sorted xs → Sorted (filter p xs)
  filter-Sorted p [] up = tt
  filter-Sorted p (x ∷ xs) up = elim (p x) as (λ b. Sorted (cond b (x ∷ filter p xs) (filter p xs))) [
    | true ↦ (λ y there. up.0 y (Contains-filter p xs y there), filter-Sorted p xs up.1)
    | false ↦ filter-Sorted p xs up.1
  ]

  pub append-Sorted : (xs ys : List ℕ) → Sorted xs → Sorted ys
      → ((x y : ℕ) → Contains xs x → Contains ys y → IsTo x y) → Sorted (xs ++ ys)
  append-Sorted [] ys up later across = later
  append-Sorted (x ∷ xs) ys up later across = (
    λ y there. elim (Contains-append_cases xs ys y there) [
      | inl first ↦ up.0 y first
      | inr second ↦ across x y (Contains-first x xs) second
    ],
    append-Sorted xs ys up.1 later (λ m n hm hn. across m n (Contains-later x xs m hm) hn),
  )

  module _ (irreflexive : (x : ℕ) → IsTo x x → ⊥) (through : (x y z : ℕ) → IsTo x y → IsTo y z → IsTo x z) where
    -- the rests of two lists with one head have the same items, where the lists have
    rest_has : (x : ℕ) (xs ys : List ℕ) → Sorted (x ∷ xs)
        → ((n : ℕ) → Contains (x ∷ xs) n → Contains (x ∷ ys) n) → (n : ℕ) → Contains xs n → Contains ys n
    rest_has x xs ys up has n there = elim (Contains-cases x ys n (has n (Contains-later x xs n there))) [
      | inl same ↦ absurd (irreflexive x (subst (IsTo x) (sym same) (up.0 n there)))
      | inr later ↦ later
    ]

    pub one_sorted : (xs ys : List ℕ) → Sorted xs → Sorted ys
        → ((n : ℕ) → Contains xs n → Contains ys n) → ((n : ℕ) → Contains ys n → Contains xs n) → xs ≡ ys
    one_sorted [] [] up to has back = refl
    one_sorted [] (y ∷ ys) up to has back = absurd (Contains-none y (back y (Contains-first y ys)))
    one_sorted (x ∷ xs) [] up to has back = absurd (Contains-none x (has x (Contains-first x xs)))
    one_sorted (x ∷ xs) (y ∷ ys) up to has back =
        let heads : x ≡ y = elim (Contains-cases y ys x (has x (Contains-first x xs))) [
          | inl same ↦ sym same
          | inr x_later ↦ elim (Contains-cases x xs y (back y (Contains-first y ys))) [
            | inl same ↦ same
            | inr y_later ↦ absurd (irreflexive x (through x y x (up.0 y y_later) (to.0 x x_later)))
          ]
        ] in
        let to_x : Sorted (x ∷ ys) = subst (λ h. Sorted (h ∷ ys)) (sym heads) to in
        let has_x = λ (n : ℕ) (h : Contains (x ∷ xs) n). subst (λ k. Contains (k ∷ ys) n) (sym heads) (has n h) in
        let back_x = λ (n : ℕ) (h : Contains (x ∷ ys) n). back n (subst (λ k. Contains (k ∷ ys) n) heads h) in
        ap₂ (λ h r. h ∷ r) heads (one_sorted xs ys up.1 to.1 (rest_has x xs ys up has_x) (rest_has x ys xs to_x back_x))
