-- Sets of users by name.
use Rattle.std.proofs.Common.{◌≡◌, ℕ, zero, suc, ◌<◌, false, List, [], ◌∷◌, length, drop, get_or, sym, ◌∙◌, ap, subst, arith}
use Rattle.ov_base.specs.Sets.{Has, with, within}
use Rattle.ov_base.proofs.SetLaws.{with-Has, within_with}
use Rattle.ov_history.specs.Lists.{everyone, set_named, set_with}
use Rattle.ov_history.specs.Places.{place_of}
use Rattle.ov_state.proofs.NewTests.{not_within}

set_with-keeps : (users : List (List ℕ)) (set user : ℕ) (names : List (List ℕ)) → Has set user → Has (set_with users set names) user
set_with-keeps users set user [] here = here
set_with-keeps users set user (name ∷ names) here =
    set_with-keeps users (with set (place_of name users)) user names (within_with set (place_of name users) user here)

drop_item : {A : Type 0} (xs : List A) (n : ℕ) (x : A) → x ≡ get_or xs n x → n < length xs → drop n xs ≡ x ∷ drop (suc n) xs
drop_item [] n x is low = absurd (omega arith)
drop_item (y ∷ xs) zero x is low = ap (λ z. z ∷ xs) (sym is)
drop_item (y ∷ xs) (suc n) x is low = drop_item xs n x is (omega arith)

-- a name that is no user's is met among these
pub not_all_users : (users names : List (List ℕ)) (set n : ℕ) (name : List ℕ) → set_with users set (drop n names) ≡ set_named users names
    → name ≡ get_or names n name → n < length names → place_of name users ≡ length users
    → within (set_named users names) (everyone (length users)) ≡ false
not_all_users users names set n name so_far at_n low missing =
    let met : set_with users (with set (place_of name users)) (drop (suc n) names) ≡ set_named users names =
    ap (set_with users set) (sym (drop_item names n name at_n low)) ∙ so_far in
    let there : Has (set_named users names) (place_of name users) =
    subst (λ s. Has s (place_of name users)) met
    (set_with-keeps users (with set (place_of name users)) (place_of name users) (drop (suc n) names)
    (with-Has set (place_of name users))) in
    not_within (set_named users names) (length users)
    (λ below. let low : place_of name users < length users = below (place_of name users) there in omega arith)
