-- A text is one list of names.
use Rattle.std.proofs.Common.{◌≡◌, ◌≢◌, ℕ, true, false, List, [], ◌∷◌, ◌++◌, ◌&&◌, ◌==◌, length, refl}
use Rattle.std.proofs.Common.{sym, ◌∙◌, ap, arith, subst, append-nil}
use Rattle.std.specs.Prelude.{codes, nat_lt}
use Rattle.std.specs.List.{list_all}
use Rattle.std.proofs.lemmas.Bool.{and_parts}
use Rattle.std.proofs.lemmas.Bool.Decides.{nat_tests}
use Rattle.ov_base.specs.Names.{is_letter_or_digit, is_name_byte, IsName}
use Rattle.ov_script.specs.LineFeeds.{Lacks}
use Rattle.ov_script.specs.WrittenLists.{AreNames, IsList, list_text, with_commas, without_repeats}
use Rattle.ov_script.proofs.ByteTexts.{lacks_not, split_once}
use Rattle.ov_auditing.specs.AuditWords.{IsListOfSome}

-- ---- names have no comma

first_is_name_byte : (b : ℕ) → is_letter_or_digit b ≡ true → is_name_byte b ≡ true
first_is_name_byte b p = rw p refl

no_comma : (b : ℕ) → is_name_byte b ≡ true → b ≢ 44
no_comma b p same =
    let at : is_name_byte 44 ≡ true = subst (λ (n : ℕ). is_name_byte n ≡ true) same p in
    let none : is_name_byte 44 ≡ false = refl in
    absurd (cc)

bytes_lack : (bytes : List ℕ) → list_all is_name_byte bytes ≡ true → Lacks 44 bytes
bytes_lack [] p = tt
bytes_lack (b ∷ bytes) p =
    let both = and_parts (is_name_byte b) (list_all is_name_byte bytes) p in
    (no_comma b both.0, bytes_lack bytes both.1)

name_lacks : (name : List ℕ) → IsName name → Lacks 44 name
name_lacks [] p = tt
name_lacks (b ∷ rest) p =
    let outer =
    and_parts (is_letter_or_digit b && nat_lt (length rest) 64) (list_all is_name_byte rest) p in
    let inner = and_parts (is_letter_or_digit b) (nat_lt (length rest) 64) outer.0 in
    (no_comma b (first_is_name_byte b inner.0), bytes_lack rest outer.1)

-- ---- a text is one list

commas_once : (n m : List ℕ) (ns ms : List (List ℕ)) → IsName n → IsName m → AreNames ns
    → AreNames ms → n ++ with_commas ns ≡ m ++ with_commas ms → (n ≡ m) × (ns ≡ ms)
commas_once n m [] [] p q ps qs e = (sym (append-nil n) ∙ e ∙ append-nil m, refl)
commas_once n m [] (y ∷ ys) p q ps qs e =
    absurd (lacks_not 44 n m (y ++ with_commas ys) (name_lacks n p) (sym (append-nil n) ∙ e))
commas_once n m (x ∷ xs) [] p q ps qs e =
    absurd (lacks_not 44 m n (x ++ with_commas xs) (name_lacks m q)
    (sym (append-nil m) ∙ sym e))
commas_once n m (x ∷ xs) (y ∷ ys) p q ps qs e =
    let both = split_once 44 n m (x ++ with_commas xs) (y ++ with_commas ys) (name_lacks n p)
    (name_lacks m q) e in
    let rest = commas_once x y xs ys ps.0 qs.0 ps.1 qs.1 both.1 in
    let head : x ≡ y = rest.0 in
    let tail : xs ≡ ys = rest.1 in
    (both.0, cc)

-- `-` is no name
dash_unnamed : (name rest : List ℕ) → IsName name → codes "-" ≡ name ++ rest → ⊥
dash_unnamed [] rest p e = absurd (cc)
dash_unnamed (b ∷ name) rest p e =
    let first : b ≡ 45 = cc in
    let none : false ≡ true = subst (λ c. IsName (c ∷ name)) first p in
    absurd (cc)

said_once : (xs ys : List (List ℕ)) → AreNames xs → AreNames ys → list_text xs ≡ list_text ys
    → xs ≡ ys
said_once [] [] p q e = refl
said_once [] (y ∷ ys) p q e = absurd (dash_unnamed y (with_commas ys) q.0 e)
said_once (x ∷ xs) [] p q e = absurd (dash_unnamed x (with_commas xs) p.0 (sym e))
said_once (x ∷ xs) (y ∷ ys) p q e =
    let both = commas_once x y xs ys p.0 q.0 p.1 q.1 e in
    let head : x ≡ y = both.0 in
    let tail : xs ≡ ys = both.1 in
    cc

pub list_once : (text : List ℕ) (names others : List (List ℕ)) → IsList text names
    → IsList text others → names ≡ others
list_once text names others (xs, p, e, is) (ys, q, f, js) =
    is ∙ ap without_repeats (said_once xs ys p q (sym e ∙ f)) ∙ sym js

-- ---- a list with one name at least

pub is_list : (text : List ℕ) (names : List (List ℕ)) → IsListOfSome text names
    → IsList text names
is_list text [] some = absurd some
is_list text (name ∷ names) some = some

-- the text of a list without names is none of a list that has one
pub none_in_empty : (text : List ℕ) (found : List (List ℕ)) → IsList text found
    → (length found == 0) ≡ true → (names : List (List ℕ)) → IsListOfSome text names → ⊥
none_in_empty text [] is empty [] some = some
none_in_empty text [] is empty (name ∷ names) some =
    let same : [] ≡ name ∷ names = list_once text [] (name ∷ names) is some in
    absurd (cc same)
none_in_empty text (first ∷ found) is empty names some = absurd (grind (arith, nat_tests, empty))
