-- Words as texts.
use Rattle.std.proofs.Common.{◌≡◌, ◌∙◌, ℕ, ◌≤◌, ◌<◌, List, [], ◌∷◌, length, get_or, drop, ap, arith, ◌⊎◌, inl, inr}
use Rattle.std.specs.Prelude.{String, map, string_bytes}
use Rattle.std.specs.declared.alloc.Global.{Global}
use Rattle.ov_consulting.specs.Words.{IsNoBookLine, IsNoQuestionTail}
use Rattle.ov_consulting.specs.Words.{IsQuestionTail}
use Rattle.ov_consulting.specs.declared.job.Question.{Question}
use Rattle.ov_consulting.specs.declared.job.Question.TheVariants.{Epoch, Files, FilesOf, Key}
use Rattle.ov_consulting.specs.declared.job.Question.TheVariants.{List as ListNames, Pending, Users}

-- four words and those behind them
pub four_texts : (words : List (String Global)) (a b c d : String Global) (x y z u : List ℕ)
    (rest : List (String Global)) → 4 ≤ length words
    → a ≡ get_or words 0 a → b ≡ get_or words 1 b → c ≡ get_or words 2 c → d ≡ get_or words 3 d
    → x ≡ string_bytes a → y ≡ string_bytes b → z ≡ string_bytes c → u ≡ string_bytes d
    → rest ≡ drop 4 words
    → map string_bytes words ≡ x ∷ y ∷ z ∷ u ∷ map string_bytes rest
four_texts [] a b c d x y z u rest low p q r s f g h i left = absurd (omega arith)
four_texts (k ∷ []) a b c d x y z u rest low p q r s f g h i left = absurd (omega arith)
four_texts (k ∷ l ∷ []) a b c d x y z u rest low p q r s f g h i left = absurd (omega arith)
four_texts (k ∷ l ∷ m ∷ []) a b c d x y z u rest low p q r s f g h i left = absurd (omega arith)
four_texts (k ∷ l ∷ m ∷ n ∷ ws) a b c d x y z u rest low p q r s f g h i left =
    let first : x ≡ string_bytes k = f ∙ ap string_bytes p in
    let second : y ≡ string_bytes l = g ∙ ap string_bytes q in
    let third : z ≡ string_bytes m = h ∙ ap string_bytes r in
    let fourth : u ≡ string_bytes n = i ∙ ap string_bytes s in
    let last : map string_bytes rest ≡ map string_bytes ws = ap (λ xs. map string_bytes xs) left in
    cc

-- fewer than four are no line
pub few_are_no_line : (words : List (String Global)) → length words < 4
    → IsNoBookLine (map string_bytes words)
few_are_no_line [] low job (rest, e, is) = absurd (cc)
few_are_no_line (k ∷ []) low job (rest, e, is) = absurd (cc)
few_are_no_line (k ∷ l ∷ []) low job (rest, e, is) = absurd (cc)
few_are_no_line (k ∷ l ∷ m ∷ []) low job (rest, e, is) = absurd (cc)
few_are_no_line (k ∷ l ∷ m ∷ n ∷ ws) low job (rest, e, is) = absurd (omega arith)

-- no word is no question
pub no_word : (q : Question) → IsQuestionTail q [] → ⊥
no_word (Key user) (e, is) = absurd (cc)
no_word (ListNames file) (e, is) = absurd (cc)
no_word Users e = absurd (cc)
no_word Files e = absurd (cc)
no_word (FilesOf user) (e, is) = absurd (cc)
no_word Epoch e = absurd (cc)
no_word Pending e = absurd (cc)

-- three words and more are none
pub many_words : (x y z : List ℕ) (rest : List (List ℕ)) (q : Question)
    → IsQuestionTail q (x ∷ y ∷ z ∷ rest) → ⊥
many_words x y z rest (Key user) (e, is) = absurd (cc)
many_words x y z rest (ListNames file) (e, is) = absurd (cc)
many_words x y z rest Users e = absurd (cc)
many_words x y z rest Files e = absurd (cc)
many_words x y z rest (FilesOf user) (e, is) = absurd (cc)
many_words x y z rest Epoch e = absurd (cc)
many_words x y z rest Pending e = absurd (cc)

-- words that are neither one nor two are no question
pub other_count : (words : List (String Global)) → (length words < 1) ⊎ (3 ≤ length words)
    → IsNoQuestionTail (map string_bytes words)
other_count [] few q is = no_word q is
other_count (k ∷ []) (inl few) q is = absurd (omega (arith, few))
other_count (k ∷ []) (inr many) q is = absurd (omega (arith, many))
other_count (k ∷ l ∷ []) (inl few) q is = absurd (omega (arith, few))
other_count (k ∷ l ∷ []) (inr many) q is = absurd (omega (arith, many))
other_count (k ∷ l ∷ m ∷ ws) few q is =
    many_words (string_bytes k) (string_bytes l) (string_bytes m) (map string_bytes ws) q is
