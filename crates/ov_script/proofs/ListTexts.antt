-- Laws of written lists: which bytes they have, and that a text is one list.
use Rattle.std.proofs.Common.{◌≡◌, ◌≢◌, ℕ, true, false, List, [], ◌∷◌, ◌++◌, refl, sym, ◌∙◌, ap, subst, append-nil, arith}
use Rattle.std.specs.Prelude.{codes}
use Rattle.ov_base.specs.NameLists.{with_name}
use Rattle.ov_base.specs.Names.{is_name_byte, IsName}
use Rattle.ov_script.specs.LineFeeds.{Lacks, NoLf}
use Rattle.ov_script.specs.WrittenLists.{AreNames, with_commas, list_text, with_names, without_repeats, IsList}
use Rattle.ov_script.proofs.ByteTexts.{Lacks-append, lacks_not, split_once}
use Rattle.ov_script.proofs.WordBytes.{name_byte_differs, name_lacks, name_no_comma}

-- ---- bytes

commas_lack : (c : ℕ) (names : List (List ℕ)) → is_name_byte c ≡ false → c ≢ 44 → AreNames names → Lacks c (with_commas names)
commas_lack c [] none differs p = tt
commas_lack c (name ∷ names) none differs p =
    (λ e. differs (sym e), Lacks-append c name (with_commas names) (name_lacks c name none p.0) (commas_lack c names none differs p.1))

list_lacks : (c : ℕ) (names : List (List ℕ)) → is_name_byte c ≡ false → c ≢ 44 → AreNames names → Lacks c (list_text names)
list_lacks c [] none differs p = (name_byte_differs c 45 none refl, tt)
list_lacks c (name ∷ names) none differs p = Lacks-append c name (with_commas names) (name_lacks c name none p.0) (commas_lack c names none differs p.1)

pub list_no_lf : (text : List ℕ) (names : List (List ℕ)) → IsList text names → NoLf text
list_no_lf text names (said, are, e, once) = subst NoLf (sym e) (list_lacks 10 said refl (λ e. omega arith) are)

pub list_no_space : (text : List ℕ) (names : List (List ℕ)) → IsList text names → Lacks 32 text
list_no_space text names (said, are, e, once) = subst (Lacks 32) (sym e) (list_lacks 32 said refl (λ e. omega arith) are)

-- ---- a text is one list

pub commas_once : (n m : List ℕ) (ns ms : List (List ℕ)) → IsName n → IsName m → AreNames ns → AreNames ms → n ++ with_commas ns ≡ m ++ with_commas ms → (n ≡ m) × (ns ≡ ms)
commas_once n m [] [] p q ps qs e = (sym (append-nil n) ∙ e ∙ append-nil m, refl)
commas_once n m [] (y ∷ ys) p q ps qs e = absurd (lacks_not 44 n m (y ++ with_commas ys) (name_no_comma n p) (sym (append-nil n) ∙ e))
commas_once n m (x ∷ xs) [] p q ps qs e = absurd (lacks_not 44 m n (x ++ with_commas xs) (name_no_comma m q) (sym (append-nil m) ∙ sym e))
commas_once n m (x ∷ xs) (y ∷ ys) p q ps qs e =
    let both = split_once 44 n m (x ++ with_commas xs) (y ++ with_commas ys) (name_no_comma n p) (name_no_comma m q) e in
    let rest = commas_once x y xs ys ps.0 qs.0 ps.1 qs.1 both.1 in
    let head : x ≡ y = rest.0 in
    let tail : xs ≡ ys = rest.1 in
    (both.0, cc)

-- `-` is no name
pub dash_unnamed : (name rest : List ℕ) → IsName name → codes "-" ≡ name ++ rest → ⊥
dash_unnamed [] rest p e = absurd (cc)
dash_unnamed (b ∷ name) rest p e =
    let first : b ≡ 45 = cc in
    let none : false ≡ true = subst (λ c. IsName (c ∷ name)) first p in
    absurd (cc)

said_once : (xs ys : List (List ℕ)) → AreNames xs → AreNames ys → list_text xs ≡ list_text ys → xs ≡ ys
said_once [] [] p q e = refl
said_once [] (y ∷ ys) p q e = absurd (dash_unnamed y (with_commas ys) q.0 e)
said_once (x ∷ xs) [] p q e = absurd (dash_unnamed x (with_commas xs) p.0 (sym e))
said_once (x ∷ xs) (y ∷ ys) p q e =
    let both = commas_once x y xs ys p.0 q.0 p.1 q.1 e in
    let head : x ≡ y = both.0 in
    let tail : xs ≡ ys = both.1 in
    cc

pub list_once : (text : List ℕ) (names others : List (List ℕ)) → IsList text names → IsList text others → names ≡ others
list_once text names others (xs, p, e, is) (ys, q, f, js) = is ∙ ap without_repeats (said_once xs ys p q (sym e ∙ f)) ∙ sym js

-- ---- one more name

pub AreNames-append : (xs ys : List (List ℕ)) → AreNames xs → AreNames ys → AreNames (xs ++ ys)
AreNames-append [] ys p q = q
AreNames-append (x ∷ xs) ys p q = (p.0, AreNames-append xs ys p.1 q)

pub with_names-last : (first names : List (List ℕ)) (name : List ℕ) → with_names first (names ++ name ∷ []) ≡ with_name (with_names first names) name
with_names-last first [] name = refl
with_names-last first (n ∷ names) name = with_names-last (with_name first n) names name
