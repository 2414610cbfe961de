-- The names of the users in a set, gathered one by one.
use Rattle.std.proofs.Common.{◌≡◌, ℕ, suc, ◌+◌, Bool, true, false, ◌||◌, List, [], ◌∷◌, ◌++◌, length, take, refl, sym, ◌∙◌, ap, arith, append_assoc}
use Rattle.std.specs.Prelude.{Some, slice_get}
use Rattle.std.specs.Str.{bytes_eq}
use Rattle.std.proofs.lemmas.Bool.{or_parts}
use Rattle.std.proofs.lemmas.List.{append-nil}
use Rattle.ov_wire.proofs.NamesLaws.{was_appended}
use Rattle.ov_base.specs.NameLists.{is_among, with_name, AreDistinct}
use Rattle.ov_base.specs.Sets.{has}
use Rattle.ov_base.proofs.NamePlaces.{free_before, take_push}
use Rattle.ov_history.specs.Lists.{name_if, names_from, names_in}

-- one name more
names_push : (set number : ℕ) (names : List (List ℕ)) (name : List ℕ)
    → names_from set number (names ++ name ∷ [])
    ≡ names_from set number names ++ name_if (has set (number + length names)) name
names_push set number [] name =
    let here : number + 0 ≡ number = omega arith in
    append-nil (name_if (has set number) name)
    ∙ ap (λ n. name_if (has set n) name) (sym here)
names_push set number (first ∷ names) name =
    let next : number + 1 + length names ≡ number + suc (length names) = omega arith in
    let rest = names_from set (number + 1) names in
    ap (λ l. name_if (has set number) first ++ l) (names_push set (number + 1) names name)
    ∙ ap (λ n. name_if (has set number) first ++ (rest ++ name_if (has set n) name)) next
    ∙ sym
    (append_assoc (name_if (has set number) first) rest
    (name_if (has set (number + suc (length names))) name))

-- ---- a name that isn't among these isn't among those of them that are in the set

apart_if : (b : Bool) (first name : List ℕ) (names : List (List ℕ)) → bytes_eq name first ≡ false
    → is_among name names ≡ false → is_among name (name_if b first ++ names) ≡ false
apart_if true first name names other free = ap (λ t. t || is_among name names) other ∙ free
apart_if false first name names other free = free

apart : (set number : ℕ) (names : List (List ℕ)) (name : List ℕ) → is_among name names ≡ false
    → is_among name (names_from set number names) ≡ false
apart set number [] name free = refl
apart set number (first ∷ names) name free =
    let parts = or_parts (bytes_eq name first) (is_among name names) free in
    apart_if (has set number) first name (names_from set (number + 1) names) parts.0
    (apart set (number + 1) names name parts.1)

-- ---- one user more

next_names : (set : ℕ) (users : List (List ℕ)) (n : ℕ) (name : List ℕ) (there : Bool)
    → slice_get users n ≡ Some name → has set n ≡ there
    → names_in set (take (n + 1) users) ≡ names_in set (take n users) ++ name_if there name
next_names set users n name there at_n is =
    let next : n + 1 ≡ suc n = omega arith in
    let push = take_push users n name at_n in
    let count : 0 + length (take n users) ≡ n = omega (arith, push.1) in
    ap (λ k. names_in set (take k users)) next ∙ ap (names_in set) push.0
    ∙ names_push set 0 (take n users) name
    ∙ ap (λ k. names_in set (take n users) ++ name_if (has set k) name) count
    ∙ ap (λ b. names_in set (take n users) ++ name_if b name) is

-- the names of the first users are gathered, and this one is in the set
pub gathered : (set : ℕ) (users : List (List ℕ)) (n : ℕ) (name : List ℕ)
    (names new : List (List ℕ)) → AreDistinct users → slice_get users n ≡ Some name
    → names ≡ names_in set (take n users) → has set n ≡ true → new ≡ with_name names name
    → new ≡ names_in set (take (n + 1) users)
gathered set users n name names new distinct at_n so_far there is =
    let free : is_among name names ≡ false =
    ap (is_among name) so_far
    ∙ apart set 0 (take n users) name (free_before users n name distinct at_n) in
    is ∙ was_appended names name free ∙ ap (λ l. l ++ name ∷ []) so_far
    ∙ sym (next_names set users n name true at_n there)

-- the name of a user who isn't in the set isn't gathered
pub passed : (set : ℕ) (users : List (List ℕ)) (n : ℕ) (name : List ℕ) (names : List (List ℕ))
    → slice_get users n ≡ Some name → names ≡ names_in set (take n users) → has set n ≡ false
    → names ≡ names_in set (take (n + 1) users)
passed set users n name names at_n so_far out =
    so_far
    ∙ sym (next_names set users n name false at_n out ∙ append-nil (names_in set (take n users)))
