-- Words as texts.
use Rattle.std.proofs.Common.{◌≡◌, ◌∙◌, ℕ, ◌≤◌, ◌<◌, List, [], ◌∷◌, length, get_or, drop, sym, ap, subst, arith}
use Rattle.std.specs.Prelude.{String, Option, Some, None, Result, Ok, Err, IfOk, IfNone, codes, map, string_bytes}
use Rattle.std.specs.declared.alloc.Global.{Global}
use Rattle.ov_owning.specs.Words.{IsNoOwnLine, IsNoOwnTail, IsUpdateTail}
use Rattle.ov_owning.specs.declared.job.OwnAct.{OwnAct}
use Rattle.ov_owning.proofs.Tails.{update_of_tail}

-- two words aren't one
two_are_not_one : (w : String Global) (ws : List (String Global)) (x : List ℕ)
    → 1 ≤ length ws → map string_bytes (w ∷ ws) ≡ x ∷ [] → ⊥
two_are_not_one w [] x low e = absurd (omega arith)
two_are_not_one w (v ∷ ws) x low e = absurd (cc)

-- five words and those behind them
pub five_texts : (words : List (String Global)) (a b c d e : String Global)
    (x y z u v : List ℕ) (rest : List (String Global)) → 5 ≤ length words
    → a ≡ get_or words 0 a → b ≡ get_or words 1 b → c ≡ get_or words 2 c
    → d ≡ get_or words 3 d → e ≡ get_or words 4 e
    → x ≡ string_bytes a → y ≡ string_bytes b → z ≡ string_bytes c → u ≡ string_bytes d
    → v ≡ string_bytes e → rest ≡ drop 5 words
    → map string_bytes words ≡ x ∷ y ∷ z ∷ u ∷ v ∷ map string_bytes rest
five_texts [] a b c d e x y z u v rest low p q r s t f g h i j left = absurd (omega arith)
five_texts (k ∷ []) a b c d e x y z u v rest low p q r s t f g h i j left = absurd (omega arith)
five_texts (k ∷ l ∷ []) a b c d e x y z u v rest low p q r s t f g h i j left = absurd (omega arith)
five_texts (k ∷ l ∷ m ∷ []) a b c d e x y z u v rest low p q r s t f g h i j left = absurd (omega arith)
five_texts (k ∷ l ∷ m ∷ n ∷ []) a b c d e x y z u v rest low p q r s t f g h i j left =
    absurd (omega arith)
five_texts (k ∷ l ∷ m ∷ n ∷ o ∷ ws) a b c d e x y z u v rest low p q r s t f g h i j left =
    let first : x ≡ string_bytes k = f ∙ ap string_bytes p in
    let second : y ≡ string_bytes l = g ∙ ap string_bytes q in
    let third : z ≡ string_bytes m = h ∙ ap string_bytes r in
    let fourth : u ≡ string_bytes n = i ∙ ap string_bytes s in
    let fifth : v ≡ string_bytes o = j ∙ ap string_bytes t in
    let last : map string_bytes rest ≡ map string_bytes ws = ap (λ xs. map string_bytes xs) left in
    cc

-- fewer than five are no line
pub few_are_no_line : (words : List (String Global)) → length words < 5
    → IsNoOwnLine (map string_bytes words)
few_are_no_line [] low job (rest, e, is) = absurd (cc)
few_are_no_line (k ∷ []) low job (rest, e, is) = absurd (cc)
few_are_no_line (k ∷ l ∷ []) low job (rest, e, is) = absurd (cc)
few_are_no_line (k ∷ l ∷ m ∷ []) low job (rest, e, is) = absurd (cc)
few_are_no_line (k ∷ l ∷ m ∷ n ∷ []) low job (rest, e, is) = absurd (cc)
few_are_no_line (k ∷ l ∷ m ∷ n ∷ o ∷ ws) low job (rest, e, is) = absurd (omega arith)

-- ---- what isn't found

-- what holds where nothing is found can be weakened
pub none_by : {T E : Type 0} (r : Result (Option T) E) (A B : Type 0) → (A → B)
    → IfOk r (λ found. IfNone found A) → IfOk r (λ found. IfNone found B)
none_by (Ok None) A B f is = f is
none_by (Ok (Some x)) A B f is = is
none_by (Err fault) A B f is = is

-- two words and more that are no update's are behind no mode
pub no_tail : (words rest : List (String Global)) (w : String Global) → words ≡ w ∷ rest
    → 1 ≤ length rest
    → ((own : OwnAct) (path : List ℕ)
    → IsUpdateTail own (string_bytes w ∷ map string_bytes rest) path → ⊥)
    → IsNoOwnTail (map string_bytes words)
no_tail words rest w e low none =
    subst (λ ws. IsNoOwnTail (map string_bytes ws)) (sym e)
    (λ own path is. none own path (update_of_tail own (map string_bytes (w ∷ rest)) path
    (λ one. two_are_not_one w rest (codes "resume") low one) is))

-- no rest, and the word alone
pub one_alone : (words rest : List (String Global)) (w : String Global) (x : List ℕ)
    → words ≡ w ∷ rest → length rest ≡ 0 → string_bytes w ≡ x → map string_bytes words ≡ x ∷ []
one_alone words [] w x e none same = ap (λ ws. map string_bytes ws) e ∙ ap (λ t. t ∷ []) same
one_alone words (v ∷ rest) w x e none same = absurd (omega arith)
