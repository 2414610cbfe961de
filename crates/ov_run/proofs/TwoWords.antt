-- A list of two words.
use Rattle.std.proofs.Common.{◌≡◌, ℕ, ◌≤◌, ◌<◌, List, [], ◌∷◌, length, get_or, sym, ◌∙◌, arith, ap}
use Rattle.std.specs.Prelude.{String, string_bytes, codes, map, Option, Some, None, IfSome}
use Rattle.std.specs.declared.alloc.Global.{Global}
use Rattle.ov_base.specs.declared.mode.Mode.{Mode}
use Rattle.ov_base.specs.Modes.{mode_word}
use Rattle.ov_run.specs.Words.{IsRun}

pub list_of_two : {A : Type 0} (xs : List A) (a b : A) → 2 ≤ length xs → length xs < 3 → a ≡ get_or xs 0 a → b ≡ get_or xs 1 b → xs ≡ a ∷ b ∷ []
list_of_two [] a b low high p q = absurd (omega arith)
list_of_two (x ∷ []) a b low high p q = absurd (omega arith)
list_of_two (x ∷ y ∷ []) a b low high p q = let p' : a ≡ x = p in let q' : b ≡ y = q in cc
list_of_two (x ∷ y ∷ z ∷ xs) a b low high p q = absurd (omega arith)

pub two_texts : (words : List (String Global)) (a b : String Global) (x y : List ℕ) → words ≡ a ∷ b ∷ [] → x ≡ string_bytes a → y ≡ string_bytes b
    → map string_bytes words ≡ x ∷ y ∷ []
two_texts words a b x y two xa yb = ap (map string_bytes) two ∙ ap (λ t. t ∷ string_bytes b ∷ []) (sym xa) ∙ ap (λ t. x ∷ t ∷ []) (sym yb)

-- the words ask for a run in a mode exactly where the first is `run` and the second is the mode's
pub is_run : (mode : Mode) (words : List (String Global)) (x y : List ℕ) → map string_bytes words ≡ x ∷ y ∷ [] → x ≡ codes "run" → y ≡ mode_word mode → IsRun mode words
is_run mode words x y texts run second = texts ∙ ap (λ t. t ∷ y ∷ []) run ∙ ap (λ t. codes "run" ∷ t ∷ []) second

-- what holds of a mode that may be there
pub told_mode : (r : Option Mode) (P Q : Mode → Type 0) → IfSome r P → ((mode : Mode) → P mode → Q mode) → IfSome r Q
told_mode None P Q p f = tt
told_mode (Some mode) P Q p f = f mode p
