-- The names of a list of distinct names, by their places.
use Rattle.std.proofs.Common.{◌≡◌, ℕ, zero, suc, Bool, true, false, ◌||◌, List, [], ◌∷◌, ◌++◌, length, take, refl, sym, ◌∙◌, ap, subst, true≢false}
use Rattle.std.specs.Prelude.{Some, slice_get}
use Rattle.std.specs.List.{IsDistinct, AllByRecursion}
use Rattle.std.specs.Str.{bytes_eq}
use Rattle.std.proofs.lemmas.Bool.{false_from_ne_true}
use Rattle.std.proofs.lemmas.Slice.Eq.{bytes_eq-Decides}
use Rattle.ov_base.specs.NameLists.{is_among, AreDistinct}

-- two texts are compared either way round
pub bytes_eq_swapped : (a b : List ℕ) (e : Bool) → bytes_eq a b ≡ e → bytes_eq b a ≡ e
bytes_eq_swapped a b true is = (bytes_eq-Decides b a).1 (sym ((bytes_eq-Decides a b).0 is))
bytes_eq_swapped a b false is = false_from_ne_true (bytes_eq b a) (λ other.
    true≢false (sym ((bytes_eq-Decides a b).1 (sym ((bytes_eq-Decides b a).0 other))) ∙ is))

later_differs : (first name : List ℕ) (names : List (List ℕ)) (n : ℕ)
    → AllByRecursion (λ y. bytes_eq first y ≡ false) names → slice_get names n ≡ Some name
    → bytes_eq first name ≡ false
later_differs first name [] n all is = absurd (cc)
later_differs first name (x ∷ names) zero all is =
    let same : x ≡ name = cc in subst (λ y. bytes_eq first y ≡ false) same all.0
later_differs first name (x ∷ names) (suc n) all is =
    later_differs first name names n all.1 is

-- the name at a place isn't among those before it
pub free_before : (names : List (List ℕ)) (n : ℕ) (name : List ℕ) → AreDistinct names
    → slice_get names n ≡ Some name → is_among name (take n names) ≡ false
unfolding IsDistinct
free_before [] n name distinct is = absurd (cc)
free_before (first ∷ names) zero name distinct is = refl
free_before (first ∷ names) (suc n) name distinct is =
    ap (λ t. t || is_among name (take n names))
    (bytes_eq_swapped first name false (later_differs first name names n distinct.0 is))
    ∙ free_before names n name distinct.1 is

-- the names up to this one
pub take_push : (names : List (List ℕ)) (n : ℕ) (name : List ℕ) → slice_get names n ≡ Some name
    → (take (suc n) names ≡ take n names ++ name ∷ []) × (length (take n names) ≡ n)
take_push [] n name is = absurd (cc)
take_push (first ∷ names) zero name is =
    let same : first ≡ name = cc in (ap (λ x. x ∷ []) same, refl)
take_push (first ∷ names) (suc n) name is =
    let rest = take_push names n name is in (ap (λ l. first ∷ l) rest.0, ap suc rest.1)
