-- Names that no file has when one is gone.
use Rattle.std.proofs.Common.{◌≡◌, ℕ, zero, suc, ◌+◌, ◌≤◌, Bool, true, false, List, [], ◌∷◌, refl, sym, ◌∙◌, ap, subst, arith}
use Rattle.std.specs.Prelude.{◌||◌, is_some, min, Option, Some, None}
use Rattle.std.specs.List.{AllByRecursion, IsDistinct}
use Rattle.std.specs.Map.{keys_of}
use Rattle.std.specs.Str.{bytes_eq}
use Rattle.std.proofs.lemmas.Map.Keys.{IsDistinct-head, IsDistinct-tail}
use Rattle.ov_base.specs.NameLists.{is_among}
use Rattle.ov_history.specs.Places.{change_at, gone, living_at}
use Rattle.ov_history.specs.Catalogue.{Filed}
use Rattle.ov_state.specs.Entries.{filed_names, numbered, HasName}
use Rattle.ov_state.proofs.FilesByNumber.{apart, apart-back}

-- a name that differs from the first isn't among these where it isn't among the others
later : (b : Bool) (name : List ℕ) (names : List (List ℕ)) → b ≡ false → is_among name names ≡ false → (b || is_among name names) ≡ false
later b name names other absent = ap (λ c. c || is_among name names) other ∙ absent

-- a name that differs from all that lead to a number is no file's
none-after : (name : List ℕ) (number : ℕ) (files : List (Option Filed)) → bytes_eq name [] ≡ false
    → AllByRecursion (λ other. bytes_eq name other ≡ false) (keys_of (numbered number files)) → is_among name (filed_names files) ≡ false
none-after name number [] named all = refl
none-after name number (None ∷ files) named all =
    later (bytes_eq name []) name (filed_names files) named (none-after name (number + 1) files named all)
none-after name number (Some f ∷ files) named all =
    later (bytes_eq name f.name) name (filed_names files) all.0 (none-after name (number + 1) files named all.1)

-- no file has the name of one that is gone
name-gone : (number : ℕ) (files : List (Option Filed)) (place : ℕ) (f : Filed) → living_at files place ≡ Some f → bytes_eq f.name [] ≡ false
    → IsDistinct bytes_eq (keys_of (numbered number files)) → is_among f.name (filed_names (change_at gone place files)) ≡ false
name-gone number [] place f is named distinct = absurd (cc)
name-gone number (None ∷ files) zero f is named distinct = absurd (cc)
name-gone number (Some first ∷ files) zero f is named distinct =
    let same : first ≡ f = cc in
    let rest : List (List ℕ) = keys_of (numbered (number + 1) files) in
    later (bytes_eq f.name []) f.name (filed_names files) named
    (none-after f.name (number + 1) files named
    (subst (λ (g : Filed). AllByRecursion (λ other. bytes_eq g.name other ≡ false) rest) same (IsDistinct-head bytes_eq first.name rest distinct)))
name-gone number (None ∷ files) (suc place) f is named distinct =
    later (bytes_eq f.name []) f.name (filed_names (change_at gone place files)) named (name-gone (number + 1) files place f is named distinct)
name-gone number (Some first ∷ files) (suc place) f is named distinct =
    let rest : List (List ℕ) = keys_of (numbered (number + 1) files) in
    let other : bytes_eq f.name first.name ≡ false =
    apart-back first.name f.name (bytes_eq f.name first.name) refl
    (apart first.name (number + 1) files place f is (IsDistinct-head bytes_eq first.name rest distinct)) in
    later (bytes_eq f.name first.name) f.name (filed_names (change_at gone place files)) other
    (name-gone (number + 1) files place f is named (IsDistinct-tail bytes_eq first.name rest distinct))

-- no file has the name of one that goes, where each name is kept once
pub fresh_then : (files : List (Option Filed)) (entries : List (List ℕ × ℕ)) (name : List ℕ) (place : ℕ)
    → entries ≡ numbered 0 files → IsDistinct bytes_eq (keys_of entries) → is_some (living_at files place) ≡ true → HasName files place name
    → bytes_eq name [] ≡ false → is_among name (filed_names (change_at gone place files)) ≡ false
fresh_then files entries name place are distinct there named some = by_file (living_at files place) refl there where
  by_file : (o : Option Filed) → living_at files place ≡ o → is_some o ≡ true → is_among name (filed_names (change_at gone place files)) ≡ false
  by_file None is there = absurd (cc)
  by_file (Some f) is there =
      let same : name ≡ f.name = named f is in
      ap (λ (k : List ℕ). is_among k (filed_names (change_at gone place files))) same
      ∙ name-gone 0 files place f is (ap (λ (k : List ℕ). bytes_eq k []) (sym same) ∙ some)
      (subst (λ (es : List (List ℕ × ℕ)). IsDistinct bytes_eq (keys_of es)) are distinct)

-- where two of three rooms are no less, the least isn't either
pub least-room : (list one other new left : ℕ) → one ≤ new → other ≤ left → min list (min one other) ≤ min list (min new left)
least-room list one other new left more others = omega (arith, more, others)
