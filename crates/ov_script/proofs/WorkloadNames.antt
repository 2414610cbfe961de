-- The names of a workload's users and files: they are names, and no two users have one.
use Rattle.std.proofs.Common.{◌≡◌, ℕ, zero, suc, ◌+◌, ◌%◌, ◌^◌, ◌<◌, ◌≤◌, ◌||◌, Bool, true, false, List, [], ◌∷◌, ◌++◌, length, refl, ◌∙◌, sym, ap, add-one, arith, IsTrue}
use Rattle.std.specs.Fmt.{decimal}
use Rattle.std.specs.List.{list_all, list_any}
use Rattle.std.specs.Str.{bytes_eq}
use Rattle.std.proofs.lemmas.Bool.{and_from, false_from_ne_true}
use Rattle.std.proofs.lemmas.Bool.Decides.{nat_tests}
use Rattle.std.proofs.lemmas.Fmt.{decimal_by_steps, length-decimal-le}
use Rattle.std.proofs.lemmas.List.Folds.{list_all-append, list_any-append}
use Rattle.std.proofs.lemmas.Slice.Eq.{bytes_eq-Decides}
use Rattle.ov_base.specs.NameLists.{appended, is_among, with_name}
use Rattle.ov_base.specs.Names.{is_letter_or_digit, is_name_byte, IsName}
use Rattle.ov_base.specs.Sets.{has}
use Rattle.ov_script.specs.Workload.{and_if, user, users_in}
use Rattle.ov_script.proofs.WordBytes.{name_from}

-- ---- a letter and a number are a name

digit_is_name_byte : (d : ℕ) → d < 10 → is_name_byte (48 + d) ≡ true
digit_is_name_byte d small = grind (arith, nat_tests)

decimal_in_name : (n : ℕ) → n < 2 ^ 64 → list_all is_name_byte (decimal n) ≡ true
decimal_in_name n small =
    decimal_by_steps (λ m ds. list_all is_name_byte ds ≡ true)
    (λ m l. and_from (is_name_byte (48 + m)) true (digit_is_name_byte m l) refl)
    (λ m ds l p. list_all-append is_name_byte ds ((48 + m % 10) ∷ [])
    ∙ and_from (list_all is_name_byte ds) (list_all is_name_byte ((48 + m % 10) ∷ [])) p
    (and_from (is_name_byte (48 + m % 10)) true (digit_is_name_byte (m % 10) (omega arith)) refl))
    n small

pub is_numbered : (letter n : ℕ) → IsTrue (is_letter_or_digit letter) → n < 2 ^ 32 → IsName (letter ∷ decimal n)
is_numbered letter n first small =
    let short : length (decimal n) ≤ 10 = length-decimal-le 10 n (omega arith) (omega arith) (omega arith) in
    name_from letter (decimal n) (record { begins = first; short = omega arith; goes_on = decimal_in_name n (omega arith) })

-- ---- the names of two users

one_digit : (n : ℕ) → n < 10 → decimal n ≡ (48 + n) ∷ []
one_digit n small =
    decimal_by_steps (λ m ds. m < 10 → ds ≡ (48 + m) ∷ []) (λ m l s. refl) (λ m ds l p s. absurd (omega arith)) n (omega arith) small

users_differ : (k j : ℕ) → j < k → k < 8 → bytes_eq (user k) (user j) ≡ false
users_differ k j less small = false_from_ne_true (bytes_eq (user k) (user j)) (λ same.
    let e : user k ≡ user j = (bytes_eq-Decides (user k) (user j)).0 same in
    let a : decimal k ≡ (48 + k) ∷ [] = one_digit k (omega arith) in
    let b : decimal j ≡ (48 + j) ∷ [] = one_digit j (omega arith) in
    let digits : 117 ∷ decimal k ≡ 117 ∷ decimal j = e in
    let equal : 48 + k ≡ 48 + j = cc in
    omega arith)

none_among : (wanted : Bool) (names : List (List ℕ)) (name other : List ℕ)
    → is_among name names ≡ false → bytes_eq name other ≡ false → is_among name (and_if wanted names other) ≡ false
none_among true names name other none differs =
    let e : is_among name (names ++ other ∷ []) ≡ (is_among name names || list_any (bytes_eq name) (other ∷ [])) = list_any-append (bytes_eq name) names (other ∷ []) in
    e ∙ rw (none, differs) refl
none_among false names name other none differs = none

later_user : (who j k : ℕ) → j ≤ k → k < 8 → is_among (user k) (users_in who j) ≡ false
later_user who zero k within small = refl
later_user who (suc j) k within small =
    none_among (has who j) (users_in who j) (user k) (user j) (later_user who j k (omega arith) small) (users_differ k j (omega arith) small)

-- the next user is behind those before
pub with_user : (who k : ℕ) → k < 8 → with_name (users_in who k) (user k) ≡ users_in who k ++ user k ∷ []
with_user who k small = ap (λ (among : Bool). appended among (users_in who k) (user k)) (later_user who k k (omega arith) small)

-- a list with one more user looked at, who is in it
pub one_more : (who k : ℕ) (names new : List (List ℕ)) (name : List ℕ) → k < 8 → names ≡ users_in who k → name ≡ user k → has who k ≡ true
    → new ≡ with_name names name → new ≡ users_in who (k + 1)
one_more who k names new name small known is_user wanted put =
    let before : with_name names name ≡ with_name (users_in who k) (user k) = rw (known, is_user) refl in
    let e : users_in who k ++ user k ∷ [] ≡ users_in who (suc k) = ap (λ (b : Bool). and_if b (users_in who k) (user k)) (sym wanted) in
    rw add-one (put ∙ before ∙ with_user who k small ∙ e)

-- a list with one more user looked at, who isn't in it
pub no_more : (who k : ℕ) (names : List (List ℕ)) → names ≡ users_in who k → has who k ≡ false → names ≡ users_in who (k + 1)
no_more who k names known unwanted = rw add-one (known ∙ ap (λ (b : Bool). and_if b (users_in who k) (user k)) (sym unwanted))
