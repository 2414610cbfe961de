-- Sums over the seats, and lists of accepted updates that get longer.
use Rattle.std.proofs.Common.{◌≡◌, ◌≢◌, ℕ, zero, suc, ◌+◌, ◌*◌, ◌<◌, ◌≤◌, List, [], ◌∷◌, ◌++◌, length, set, get_or, refl, ap, sym, ◌∙◌, subst, arith, append_assoc, append-nil, length-append, Bool, true, false}
use Rattle.std.specs.Prelude.{All, AllPairs, ◌==◌}
use Rattle.std.proofs.lemmas.List.{get_or_append_left, get_or_push}
use Rattle.std.proofs.lemmas.List.Elements.{All-push, All-weaker, filter-append}
use Rattle.std.proofs.lemmas.Bool.Decides.{nat_tests}
use mathlib.Core.Logic.{dite}
use mathlib.Core.Option.{some, some-injective, some-ne-none}
use native.Mathlib.Decide.{ℕ_discrete}
use lib.ListN.{get_elem?}
use Rattle.ov_peer.specs.Tells.{AnswererTells}
use Rattle.ov_turn.specs.declared.view.Entry.{Entry}
use Rattle.ov_turn.specs.declared.view.Knowledge.{Knowledge}
use Rattle.ov_turn.specs.Rule.{total}
use Rattle.ov_turn.specs.Logs.{BeginsWith, DifferInCall, GoesOnFrom, IsNumbered, own}

-- ---- sums

module _ {X : Type 0} where
  pub total_set : (f : X → ℕ) (xs : List X) (i : ℕ) (v w : X) → get_elem? xs i ≡ some v
      → total f (set xs i w) + f v ≡ total f xs + f w
  total_set f [] i v w e = absurd (some-ne-none v (sym e))
  total_set f (x ∷ xs) zero v w e =
      let same : f x ≡ f v = ap f (some-injective x v e) in omega arith
  total_set f (x ∷ xs) (suc i) v w e = let p = total_set f xs i v w e in omega arith

  pub total_below : (f g : X → ℕ) (k : ℕ) (xs : List X)
      → ((i : ℕ) (v : X) → get_elem? xs i ≡ some v → f v ≤ k * g v)
      → total f xs ≤ k * total g xs
  total_below f g k [] h = omega arith
  total_below f g k (x ∷ xs) h =
      let p = total_below f g k xs (λ i v e. h (suc i) v e) in
      let q = h zero x refl in omega arith

  pub total_push : (f : X → ℕ) (xs : List X) (v : X)
      → total f (xs ++ v ∷ []) ≡ total f xs + f v
  total_push f [] v = omega arith
  total_push f (x ∷ xs) v = let p = total_push f xs v in omega arith

  pub total_at_least : (f : X → ℕ) (xs : List X) (i : ℕ) (v : X)
      → get_elem? xs i ≡ some v → f v ≤ total f xs
  total_at_least f [] i v e = absurd (some-ne-none v (sym e))
  total_at_least f (x ∷ xs) zero v e =
      let same : f x ≡ f v = ap f (some-injective x v e) in omega arith
  total_at_least f (x ∷ xs) (suc i) v e = let p = total_at_least f xs i v e in omega arith

  -- two elements together are no more than the sum
  pub total_two : (f : X → ℕ) (xs : List X) (i j : ℕ) (v w : X) → i ≢ j
      → get_elem? xs i ≡ some v → get_elem? xs j ≡ some w → f v + f w ≤ total f xs
  total_two f [] i j v w ne e h = absurd (some-ne-none v (sym e))
  total_two f (x ∷ xs) zero zero v w ne e h = absurd (ne refl)
  total_two f (x ∷ xs) zero (suc j) v w ne e h =
      let same : f x ≡ f v = ap f (some-injective x v e) in
      let p = total_at_least f xs j w h in omega arith
  total_two f (x ∷ xs) (suc i) zero v w ne e h =
      let same : f x ≡ f w = ap f (some-injective x w h) in
      let p = total_at_least f xs i v e in omega arith
  total_two f (x ∷ xs) (suc i) (suc j) v w ne e h =
      let p = total_two f xs i j v w (λ same. ne (ap suc same)) e h in omega arith

-- the first value in hand
first_value : {A : Type 0} → A → List (ℕ × A) → A
first_value none [] = none
first_value none (one ∷ more) = one.1

-- the one value in hand
pub only_one : {A : Type 0} (hand : List (ℕ × A)) (y z : A) → hand ≡ (0, y) ∷ []
    → hand ≡ (0, z) ∷ [] → y ≡ z
unfolding first_value
only_one hand y z one other = ap (first_value y) (sym one ∙ other)

-- ---- what a list begins with

pub begins_self : (log : List Entry) → BeginsWith log log
begins_self log = ([], sym (append-nil log))

pub begins_length : (log first : List Entry) → BeginsWith log first → length first ≤ length log
begins_length log first b =
    let same = ap length b.1 in let sum = length-append first b.0 in omega arith

pub begins_push : (log first : List Entry) (e : Entry) → BeginsWith log first
    → BeginsWith (log ++ e ∷ []) first
begins_push log first e b =
    (b.0 ++ e ∷ [], ap (λ l. l ++ e ∷ []) b.1 ∙ append_assoc first b.0 (e ∷ []))

-- the place of an element
pub at_inside : {X : Type 0} (xs : List X) (i : ℕ) (v : X) → get_elem? xs i ≡ some v
    → i < length xs
at_inside [] i v e = absurd (some-ne-none v (sym e))
at_inside (x ∷ xs) zero v e = omega arith
at_inside (x ∷ xs) (suc i) v e = let p = at_inside xs i v e in omega arith

-- ---- a pass's own updates

-- an update of another pass is none of its own
own_none : (pass : ℕ) (e : Entry) → e.pass ≢ pass → own pass (e ∷ []) ≡ []
own_none pass e ne = by_test (e.pass == pass) refl where
  by_test : (b : Bool) → (e.pass == pass) ≡ b → own pass (e ∷ []) ≡ []
  by_test true is = absurd (ne (grind (arith, nat_tests)))
  by_test false is = rw is refl

pub own_push : (pass : ℕ) (log : List Entry) (e : Entry) → e.pass ≢ pass
    → own pass (log ++ e ∷ []) ≡ own pass log
own_push pass log e ne =
    filter-append (λ (f : Entry). f.pass == pass) log (e ∷ [])
    ∙ (ap (λ l. own pass log ++ l) (own_none pass e ne) ∙ append-nil (own pass log))

-- a pass that is still to come has none
pub own_of_later : (pass : ℕ) (log : List Entry) → All (λ e. e.pass < pass) log
    → own pass log ≡ []
own_of_later pass [] h = refl
own_of_later pass (e ∷ log) h =
    by_test (e.pass == pass) refl (own_of_later pass log (λ k d lt. h (suc k) d (omega arith)))
  where
    below : e.pass < pass
    below = h 0 e (omega arith)

    by_test : (b : Bool) → (e.pass == pass) ≡ b → own pass log ≡ [] → own pass (e ∷ log) ≡ []
    by_test true is none =
        absurd
        (let same : e.pass ≡ pass = grind (arith, nat_tests) in let b = below in omega arith)
    by_test false is none = rw is none

-- ---- the list gets longer

module _ {A : Type 0} (tells : AnswererTells A) (start : A) where
  pub goes_on_push : (k : Knowledge) (log : List Entry) (e : Entry) → e.pass ≢ k.number
      → (k.failed ≡ true → ⊥) → GoesOnFrom tells start k log
      → GoesOnFrom tells start k (log ++ e ∷ [])
  goes_on_push k log e ne sound g =
      let long = length-append log (e ∷ []) in
      let told = g.2 in (
        begins_push log k.seen e g.0,
        own_push k.number log e ne ∙ g.1,
        omega arith,
        λ failed. absurd (sound failed),
      )

pairs_push : {X : Type 0} (R : X → X → Type 0) (xs : List X) (x : X) → AllPairs R xs
    → All (λ y. R y x) xs → AllPairs R (xs ++ x ∷ [])
pairs_push {X} R xs x pairs all i j d lt within =
    let long : length (xs ++ x ∷ []) ≡ length xs + 1 = length-append xs (x ∷ []) in
    let below : i < length xs = omega arith in
    let first : get_or (xs ++ x ∷ []) i d ≡ get_or xs i d =
    get_or_append_left xs (x ∷ []) d i below in
    dite (ℕ_discrete j (length xs))
    (λ last. subst (λ (p : X × X). R p.0 p.1)
    (λ t. (sym first t, sym (get_or_push xs x d j (sym last)) t)) (all i d below))
    (λ other.
    let inside : j < length xs = omega arith in
    subst (λ (p : X × X). R p.0 p.1)
    (λ t. (sym first t, sym (get_or_append_left xs (x ∷ []) d j inside) t))
    (pairs i j d lt inside))

pub numbered_push : (passes : ℕ) (log : List Entry) (e : Entry) → IsNumbered passes log
    → e.pass < passes → All (λ f. f.pass ≡ e.pass → f.call < e.call) log
    → IsNumbered passes (log ++ e ∷ [])
numbered_push passes log e n below earlier = (
  All-push (λ (f : Entry). f.pass < passes) log e n.0 below,
  pairs_push DifferInCall log e n.1
      (All-weaker (λ (f : Entry). f.pass ≡ e.pass → f.call < e.call) (λ f. DifferInCall f e)
      (λ f less same equal. let l = less same in absurd (omega arith)) log earlier),
)
