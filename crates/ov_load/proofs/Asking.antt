-- The words that ask for a load.
use Rattle.std.proofs.Common.{◌≡◌, ℕ, ◌≤◌, ◌<◌, ◌^◌, List, [], ◌∷◌, length, get_or, sym, ◌∙◌, arith, ap}
use Rattle.std.specs.Prelude.{String, string_bytes, codes, map, Option, Some, None, IfSome, IfNone, Result, Ok, Err}
use Rattle.std.specs.Fmt.{decimal}
use Rattle.std.specs.declared.alloc.Global.{Global}
use Rattle.std.specs.Str.Parse.{ParsesUnsigned}
use Rattle.std.proofs.lemmas.Fmt.{decimal_injective, parse-decimal}
use Rattle.ov_script.specs.declared.drawn.TheConstants.{MAX_WORKLOAD}
use Rattle.ov_base.proofs.Modes.{one_word}
use Rattle.ov_load.specs.LoadWords.{AreNoLoad, IsAsked, IsLoad}
use Rattle.ov_load.specs.declared.load_words.Load.{Load}

-- ---- numbers

-- a count fits in 64 bits
count_fits : (count : ℕ) → count ≤ MAX_WORKLOAD → count < 2 ^ 64
count_fits count low = omega (arith, low)

pub one_number : (word : List ℕ) (m n : ℕ) → m < 2 ^ 64 → n < 2 ^ 64 → word ≡ decimal m → word ≡ decimal n → m ≡ n
one_number word m n low high p q = decimal_injective m n low high (sym p ∙ q)

-- a count that is read isn't another one
pub no_count : (word : List ℕ) (m n : ℕ) → m < 2 ^ 64 → word ≡ decimal m → 1 ≤ n → n ≤ MAX_WORKLOAD → word ≡ decimal n → (1 ≤ m) × (m ≤ MAX_WORKLOAD)
no_count word m n low p some most q =
    let same : m ≡ n = one_number word m n low (count_fits n most) p q in
    (omega (arith, same, some), omega (arith, same, most))

-- a number that is written is read
pub is_read : {E : Type 0} (word : List ℕ) (r : Result ℕ E) (n : ℕ) → n < 2 ^ 64 → word ≡ decimal n → ParsesUnsigned 64 10 word r → r ≡ Ok n
is_read word r n low is reads = parse-decimal 64 n word r low low is reads

pub never_unread : {E : Type 0} (word : List ℕ) (n : ℕ) (e : E) → n < 2 ^ 64 → word ≡ decimal n → ParsesUnsigned 64 10 word (Err e) → ⊥
never_unread word n e low is reads = cc (is_read word (Err e) n low is reads)

pub read_once : {E : Type 0} (word : List ℕ) (r : Result ℕ E) (m n : ℕ) → r ≡ Ok m → n < 2 ^ 64 → word ≡ decimal n → ParsesUnsigned 64 10 word r → word ≡ decimal m
read_once word r m n found low is reads =
    let same = sym found ∙ is_read word r n low is reads in
    let one : m ≡ n = cc same in
    is ∙ ap decimal (sym one)

-- ---- words

pub list_of_four : {A : Type 0} (xs : List A) (a b c d : A) → 4 ≤ length xs → length xs < 5
    → a ≡ get_or xs 0 a → b ≡ get_or xs 1 b → c ≡ get_or xs 2 c → d ≡ get_or xs 3 d → xs ≡ a ∷ b ∷ c ∷ d ∷ []
list_of_four [] a b c d low high p q r s = absurd (omega arith)
list_of_four (w ∷ []) a b c d low high p q r s = absurd (omega arith)
list_of_four (w ∷ x ∷ []) a b c d low high p q r s = absurd (omega arith)
list_of_four (w ∷ x ∷ y ∷ []) a b c d low high p q r s = absurd (omega arith)
list_of_four (w ∷ x ∷ y ∷ z ∷ []) a b c d low high p q r s =
    let p' : a ≡ w = p in let q' : b ≡ x = q in let r' : c ≡ y = r in let s' : d ≡ z = s in cc
list_of_four (w ∷ x ∷ y ∷ z ∷ v ∷ xs) a b c d low high p q r s = absurd (omega arith)

pub four_texts : (words : List (String Global)) (a b c d : String Global) (w x y z : List ℕ) → words ≡ a ∷ b ∷ c ∷ d ∷ []
    → w ≡ string_bytes a → x ≡ string_bytes b → y ≡ string_bytes c → z ≡ string_bytes d
    → map string_bytes words ≡ w ∷ x ∷ y ∷ z ∷ []
four_texts words a b c d w x y z four p q r s =
    let all : map string_bytes words ≡ string_bytes a ∷ string_bytes b ∷ string_bytes c ∷ string_bytes d ∷ [] = ap (map string_bytes) four in cc

-- the words of a load are these three behind `load`
pub load_is : (load : Load) (words : List (String Global)) (w x y z : List ℕ) → map string_bytes words ≡ w ∷ x ∷ y ∷ z ∷ [] → IsLoad load words
    → (w ≡ codes "load") × IsAsked load x y z
load_is load words w x y z texts (mode, number, count, asked, is) =
    let same : w ∷ x ∷ y ∷ z ∷ [] ≡ codes "load" ∷ mode ∷ number ∷ count ∷ [] = sym texts ∙ is in
    let p : w ≡ codes "load" = cc in
    let q : mode ≡ x = cc in
    let r : number ≡ y = cc in
    let s : count ≡ z = cc in
    (p, (asked.0, sym q ∙ asked.1, sym r ∙ asked.2, sym s ∙ asked.3))

-- what is found of three words is found of the four
pub asked_some : (r : Option Load) (words : List (String Global)) (w x y z : List ℕ) → map string_bytes words ≡ w ∷ x ∷ y ∷ z ∷ [] → w ≡ codes "load"
    → IfSome r (λ load. IsAsked load x y z) → IfSome r (λ load. IsLoad load words)
asked_some None words w x y z texts first found = tt
asked_some (Some load) words w x y z texts first found = (x, y, z, found, texts ∙ ap (λ t. t ∷ x ∷ y ∷ z ∷ []) first)

pub asked_none : (r : Option Load) (words : List (String Global)) (w x y z : List ℕ) → map string_bytes words ≡ w ∷ x ∷ y ∷ z ∷ []
    → IfNone r ((load : Load) → IsAsked load x y z → ⊥) → IfNone r (AreNoLoad words)
asked_none None words w x y z texts none = λ load is. none load (load_is load words w x y z texts is).1
asked_none (Some load) words w x y z texts none = tt

-- words ask for one load
pub one_load : (a b : Load) (words : List (String Global)) → IsLoad a words → IsLoad b words → a ≡ b
one_load a b words (mode, number, count, asked, is) other =
    let same = (load_is b words (codes "load") mode number count is other).1 in
    let modes : a.mode ≡ b.mode = one_word a.mode b.mode (sym asked.1 ∙ same.1) in
    let numbers : a.number ≡ b.number = one_number number a.number b.number asked.0.0 same.0.0 asked.2 same.2 in
    let counts : a.count ≡ b.count =
    one_number count a.count b.count (count_fits a.count asked.0.2) (count_fits b.count same.0.2) asked.3 same.3 in
    λ j. record { mode = modes j; number = numbers j; count = counts j }
