-- Which words ask for a shorter store.
use Rattle.std.proofs.Common.{ℕ, ◌<◌, ◌∙◌, ◌≡◌, ◌≤◌, List, [], ◌∷◌, ap, arith, get_or, length, refl, suc, sym}
use Rattle.std.specs.Prelude.{String, codes, map, string_bytes}
use Rattle.std.specs.declared.alloc.Global.{Global}
use Rattle.ov_tidying.specs.Promises.{IsNoTidy}

pub one_text : (words : List (String Global)) (a : String Global) (x : List ℕ)
    → 1 ≤ length words → length words < 2 → a ≡ get_or words 0 a → x ≡ string_bytes a
    → map string_bytes words ≡ x ∷ []
one_text [] a x low high is e = absurd (omega (arith, low))
one_text (w ∷ []) a x low high is e =
    ap (λ t. t ∷ []) (sym (e ∙ ap string_bytes is))
one_text (w ∷ v ∷ ws) a x low high is e = absurd (omega (arith, high))

same_count : (words : List (String Global)) → length (map string_bytes words) ≡ length words
same_count [] = refl
same_count (w ∷ words) = ap (λ n. suc n) (same_count words)

pub other_length : (words : List (String Global)) → (length words ≡ 1 → ⊥) → IsNoTidy words
other_length words other bytes =
    let many : length (map string_bytes words) ≡ length (codes "tidy" ∷ []) = ap length bytes in
    other (sym (same_count words) ∙ many)
