-- A list of distinct names, copied one by one.
use Rattle.std.proofs.Common.{◌≡◌, ℕ, zero, suc, ◌+◌, List, [], ◌∷◌, length, take, sym, ◌∙◌, ap, arith, add-one, get_or, ◌<◌}
use Rattle.std.specs.Prelude.{Some, slice_get}
use Rattle.ov_wire.proofs.NamesLaws.{was_appended}
use Rattle.ov_base.specs.NameLists.{with_name, AreDistinct}
use Rattle.ov_base.proofs.NamePlaces.{free_before, take_push}

at_place : (names : List (List ℕ)) (n : ℕ) (name : List ℕ) → n < length names
    → name ≡ get_or names n name → slice_get names n ≡ Some name
at_place [] n name low is = absurd (omega arith)
at_place (first ∷ names) zero name low is = ap Some (sym is)
at_place (first ∷ names) (suc n) name low is = at_place names n name (omega arith) is

-- one more of distinct names is copied
pub copied : (names : List (List ℕ)) (n : ℕ) (name : List ℕ) (copy new : List (List ℕ))
    → AreDistinct names → n < length names → name ≡ get_or names n name → copy ≡ take n names
    → new ≡ with_name copy name → new ≡ take (n + 1) names
copied names n name copy new distinct low is so_far more =
    let place = at_place names n name low is in
    more ∙ ap (λ (c : List (List ℕ)). with_name c name) so_far
    ∙ was_appended (take n names) name (free_before names n name distinct place)
    ∙ sym (take_push names n name place).0
    ∙ ap (λ (k : ℕ). take k names) (sym (add-one n))
