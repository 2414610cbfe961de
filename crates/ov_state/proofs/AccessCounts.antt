-- How many access tokens there can be: at most one for each user and base node.
use Rattle.std.proofs.Common.{◌≡◌, ◌<◌, ◌≤◌, ◌+◌, ◌*◌, ◌==◌, ℕ, zero, suc, Bool, true, false, List, [], ◌∷◌, Some, length, take, refl, subst, arith, inl, inr, eqb-true}
use Rattle.std.specs.Prelude.{Contains, nat_lt, slice_get, slice_index}
use Rattle.std.proofs.lemmas.Bool.{false_from_ne_true}
use Rattle.std.proofs.lemmas.Bool.Decides.{nat_tests}
use Rattle.std.proofs.lemmas.List.{length-map}
use Rattle.std.proofs.lemmas.Nat.{ones-le}
use Rattle.ov_base.specs.Sets.{Has, IsBelow, has, size}
use Rattle.ov_base.proofs.SetLaws.{IsBelow-small}
use Rattle.ov_base.proofs.SetSizes.{size-with}
use Rattle.ov_graph.proofs.ListLaws.{Contains-first, Contains-later}
use Rattle.ov_base_layer.specs.Holders.{Access, access_of, accesses_of, holders_in, with_accesses, with_if}
use Rattle.ov_base_layer.proofs.HolderLaws.{holders_are}
use Rattle.ov_history.specs.Catalogue.{Catalogue}
use Rattle.ov_history.specs.Sound.{IsSound}
use Rattle.ov_base.specs.declared.limits.TheConstants.{MAX_ACCESS_TOKENS, MAX_LAYER_NODES, MAX_USERS}

-- ---- by node

abbrev one_if : Bool → ℕ
one_if true = 1
one_if false = 0

-- how many of the accesses are to the node
abbrev count_at : ℕ → List Access → ℕ
count_at node [] = 0
count_at node (access ∷ accesses) = one_if (access.node == node) + count_at node accesses

-- how many of the accesses are to nodes below the node
abbrev count_below : ℕ → List Access → ℕ
count_below zero accesses = 0
count_below (suc node) accesses = count_below node accesses + count_at node accesses

below_or_at : (a node : ℕ) (less same more : Bool) → nat_lt a node ≡ less → (a == node) ≡ same → nat_lt a (suc node) ≡ more
    → one_if less + one_if same ≡ one_if more
below_or_at a node true true more is at next = absurd (grind (arith, nat_tests))
below_or_at a node true false true is at next = refl
below_or_at a node true false false is at next = absurd (grind (arith, nat_tests))
below_or_at a node false true true is at next = refl
below_or_at a node false true false is at next = absurd (grind (arith, nat_tests))
below_or_at a node false false true is at next = absurd (grind (arith, nat_tests))
below_or_at a node false false false is at next = refl

none_below : (node : ℕ) → count_below node [] ≡ 0
none_below zero = refl
none_below (suc node) = omega (arith, none_below node)

one_more : (node : ℕ) (access : Access) (accesses : List Access)
    → count_below node (access ∷ accesses) ≡ one_if (nat_lt access.node node) + count_below node accesses
one_more zero access accesses = below_none (nat_lt access.node 0) refl where
  below_none : (b : Bool) → nat_lt access.node 0 ≡ b → 0 ≡ one_if b + 0
  below_none true is = absurd (grind (arith, nat_tests))
  below_none false is = refl
one_more (suc node) access accesses =
    let before : count_below node (access ∷ accesses) ≡ one_if (nat_lt access.node node) + count_below node accesses =
    one_more node access accesses in
    let step : one_if (nat_lt access.node node) + one_if (access.node == node) ≡ one_if (nat_lt access.node (suc node)) =
    below_or_at access.node node (nat_lt access.node node) (access.node == node) (nat_lt access.node (suc node)) refl refl refl in
    omega (arith, before, step)

counted : (low : Bool) (a node : ℕ) → nat_lt a node ≡ low → a < node → one_if low ≡ 1
counted true a node is less = refl
counted false a node is less = absurd (grind (arith, nat_tests))

-- all are counted, where all are to nodes below
all_below : (node : ℕ) (accesses : List Access) → ((access : Access) → Contains accesses access → access.node < node)
    → count_below node accesses ≡ length accesses
all_below node [] low = none_below node
all_below node (access ∷ accesses) low =
    let rest : count_below node accesses ≡ length accesses =
    all_below node accesses (λ other there. low other (Contains-later access accesses other there)) in
    let first : one_if (nat_lt access.node node) ≡ 1 =
    counted (nat_lt access.node node) access.node node refl (low access (Contains-first access accesses)) in
    omega (arith, one_more node access accesses, rest, first)

-- ---- by holders

larger_if : (b : Bool) (set user : ℕ) → (b ≡ true → ¬ Has set user) → size (with_if b set user) ≡ size set + one_if b
larger_if true set user new = size-with set user (false_from_ne_true (has set user) (new refl))
larger_if false set user new = omega arith

-- each access makes one holder more
each_holds : (node : ℕ) (accesses : List Access) (set : ℕ)
    → ((n : ℕ) (access : Access) → slice_get accesses n ≡ Some access → access.node ≡ node
    → ¬ Has (with_accesses (take n accesses) node set) access.user)
    → size set + count_at node accesses ≡ size (with_accesses accesses node set)
each_holds node [] set first = omega arith
each_holds node (access ∷ accesses) set first =
    let more : ℕ = with_if (access.node == node) set access.user in
    let one : size more ≡ size set + one_if (access.node == node) =
    larger_if (access.node == node) set access.user (λ test. first 0 access refl (eqb-true access.node node test)) in
    let rest : size more + count_at node accesses ≡ size (with_accesses accesses node more) =
    each_holds node accesses more (λ n other is at. first (suc n) other is at) in
    omega (arith, one, rest)

-- ---- of the catalogue

module _ (s : Catalogue) (sound : IsSound s) (users : length s.users ≤ MAX_USERS) where
  abbrev sets : List ℕ
  sets = s.base.sets

  abbrev accesses : List Access
  accesses = accesses_of s.grants

  set_at : (xs : List ℕ) (n : ℕ) → n < length xs → Contains xs (slice_index xs n)
  set_at [] n low = absurd (omega arith)
  set_at (x ∷ xs) zero low = Contains-first x xs
  set_at (x ∷ xs) (suc n) low = Contains-later x xs (slice_index xs n) (set_at xs n (omega arith))

  holders_below : (node : ℕ) → node < length sets → IsBelow MAX_USERS (holders_in sets accesses node)
  holders_below node low user held = elim ((holders_are sets accesses node user).0 held) [
    | inl member ↦ omega (arith, users, sound.base.below (slice_index sets node) (set_at sets node low) user member)
    | inr given ↦ omega (arith, users, sound.accesses.users (record { user = user; node = node }) given)
  ]

  few_at : (node : ℕ) → node < length sets → count_at node accesses ≤ MAX_USERS
  few_at node low =
      let held : ℕ = holders_in sets accesses node in
      let most : size held ≤ MAX_USERS = ones-le MAX_USERS held (IsBelow-small MAX_USERS held (holders_below node low)) in
      let each : size (slice_index sets node) + count_at node accesses ≡ size held =
      each_holds node accesses (slice_index sets node)
      (λ n access is at. subst (λ m. ¬ Has (holders_in sets (take n accesses) m) access.user) at (sound.accesses.first n access is)) in
      omega (arith, most, each)

  few_below : (node : ℕ) → node ≤ length sets → count_below node accesses ≤ node * MAX_USERS
  few_below zero low = omega arith
  few_below (suc node) low =
      let before : count_below node accesses ≤ node * MAX_USERS = few_below node (omega arith) in
      let here : count_at node accesses ≤ MAX_USERS = few_at node (omega arith) in
      omega (arith, before, here)

  pub few_grants : length s.grants ≤ MAX_ACCESS_TOKENS
  few_grants =
      let all : count_below (length sets) accesses ≡ length accesses = all_below (length sets) accesses sound.accesses.nodes in
      let most : count_below (length sets) accesses ≤ length sets * MAX_USERS = few_below (length sets) (omega arith) in
      let few : length sets ≤ MAX_LAYER_NODES = sound.base.few in
      omega (arith, all, most, few, length-map s.grants access_of)
