-- Where the first space of a text is, and words that have none.
use Rattle.std.proofs.Common.{◌≡◌, ◌≢◌, ◌∙◌, ℕ, zero, suc, ◌+◌, ◌%◌, ◌^◌, ◌<◌, ◌&&◌, true}
use Rattle.std.proofs.Common.{List, [], ◌∷◌, ◌++◌, length, take, drop, refl, sym, ap, subst, arith}
use Rattle.std.specs.Prelude.{nat_lt}
use Rattle.std.specs.List.{list_all}
use Rattle.std.specs.Fmt.{decimal}
use Rattle.std.proofs.lemmas.Bool.{and_parts}
use Rattle.std.proofs.lemmas.Bool.Decides.{nat_tests}
use Rattle.std.proofs.lemmas.Fmt.{decimal_by_steps}
use Rattle.std.proofs.lemmas.List.{append_cancel_left, take_at}
use Rattle.std.proofs.Math.Seq.{drop-append_seam}
use Rattle.memchr.specs.Find.{Nowhere, Passes, is_byte}
use Rattle.ov_base.specs.Names.{IsName, is_letter_or_digit, is_name_byte}
use Rattle.ov_client.specs.KeyLines.{HasNoSpace}

no_space-append : (xs ys : List ℕ) → HasNoSpace xs → HasNoSpace ys → HasNoSpace (xs ++ ys)
no_space-append [] ys p q = q
no_space-append (x ∷ xs) ys p q = (p.0, no_space-append xs ys p.1 q)

-- ---- words without a space

pub decimal_no_space : (n : ℕ) → n < 2 ^ 64 → HasNoSpace (decimal n)
decimal_no_space n small =
    decimal_by_steps (λ m ds. HasNoSpace ds) (λ m l. (λ e. omega arith, tt))
    (λ m ds l p. no_space-append ds ((48 + m % 10) ∷ []) p (λ e. omega arith, tt)) n small

name_byte : (b : ℕ) → is_letter_or_digit b ≡ true → is_name_byte b ≡ true
name_byte b p = rw p refl

no_name_byte : (b : ℕ) → is_name_byte b ≡ true → b ≢ 32
no_name_byte b p e =
    let at_space : is_name_byte 32 ≡ true = subst (λ n. is_name_byte n ≡ true) e p in cc

name_bytes : (bs : List ℕ) → list_all is_name_byte bs ≡ true → HasNoSpace bs
name_bytes [] p = tt
name_bytes (b ∷ bs) p =
    let both = and_parts (is_name_byte b) (list_all is_name_byte bs) p in
    (no_name_byte b both.0, name_bytes bs both.1)

pub name_no_space : (bs : List ℕ) → IsName bs → HasNoSpace bs
name_no_space [] p = tt
name_no_space (b ∷ rest) p =
    let outer = and_parts (is_letter_or_digit b && nat_lt (length rest) 64)
    (list_all is_name_byte rest) p in
    let inner = and_parts (is_letter_or_digit b) (nat_lt (length rest) 64) outer.0 in
    (no_name_byte b (name_byte b inner.0), name_bytes rest outer.1)

-- ---- the first space

-- the words before a space are the same in two ways to cut a text there
first_word : (xs ys x y : List ℕ) → HasNoSpace xs → HasNoSpace ys → xs ++ 32 ∷ x ≡ ys ++ 32 ∷ y
    → xs ≡ ys
first_word [] [] x y p q e = refl
first_word [] (b ∷ ys) x y p q e = absurd (q.0 cc)
first_word (a ∷ xs) [] x y p q e = absurd (p.0 cc)
first_word (a ∷ xs) (b ∷ ys) x y p q e =
    let tail : xs ++ 32 ∷ x ≡ ys ++ 32 ∷ y = cc in
    let same : xs ≡ ys = first_word xs ys x y p.1 q.1 tail in
    let head : a ≡ b = cc in cc

-- the words before a space and what follows it are the same in two ways to cut a text there
pub split_once : (text xs ys x y : List ℕ) → HasNoSpace xs → HasNoSpace ys
    → text ≡ xs ++ 32 ∷ x → text ≡ ys ++ 32 ∷ y → (xs ≡ ys) × (x ≡ y)
split_once text xs ys x y p q one two =
    let e : xs ++ 32 ∷ x ≡ ys ++ 32 ∷ y = sym one ∙ two in
    let same : xs ≡ ys = first_word xs ys x y p q e in
    let tails : 32 ∷ x ≡ 32 ∷ y =
    append_cancel_left xs (32 ∷ x) (32 ∷ y) (e ∙ ap (λ l. l ++ 32 ∷ y) (sym same)) in
    (same, let t : x ≡ y = cc in t)

-- a text without a space isn't cut there
pub unsplit : (text xs ys : List ℕ) → HasNoSpace text → text ≡ xs ++ 32 ∷ ys → ⊥
unsplit [] [] ys p e = absurd cc
unsplit [] (x ∷ xs) ys p e = absurd cc
unsplit (b ∷ text) [] ys p e = p.0 cc
unsplit (b ∷ text) (x ∷ xs) ys p e =
    let tail : text ≡ xs ++ 32 ∷ ys = cc in unsplit text xs ys p.1 tail

-- ---- what a search finds

-- the bytes before the first space, and those behind it
record SplitsAt (bytes : List ℕ) (n : ℕ) : Type 0 where
  pub word : List ℕ
  pub rest : List ℕ
  pub no_space : HasNoSpace word
  pub count : length word ≡ n
  pub whole : bytes ≡ word ++ 32 ∷ rest

passes_later : (b : ℕ) (bytes : List ℕ) (n : ℕ)
    → Nowhere (Passes (is_byte 32) (b ∷ bytes)) 0 (suc n)
    → Nowhere (Passes (is_byte 32) bytes) 0 n
passes_later b bytes n none = λ k low below is. none (suc k) (omega arith) (omega arith) is

splits_at_first : (bytes : List ℕ) (n : ℕ) → n < length bytes
    → Nowhere (Passes (is_byte 32) bytes) 0 n → Passes (is_byte 32) bytes n → SplitsAt bytes n
splits_at_first [] n within none is = absurd (omega arith)
splits_at_first (b ∷ bytes) zero within none is =
    let space : b ≡ 32 = grind (arith, nat_tests) in record {
      word = [];
      rest = bytes;
      no_space = tt;
      count = refl;
      whole = ap (λ x. x ∷ bytes) space;
    }
splits_at_first (b ∷ bytes) (suc n) within none is =
    let later = splits_at_first bytes n (omega arith) (passes_later b bytes n none) is in
    let first : (b ≡ 32) → ⊥ =
    λ e. none 0 (omega arith) (omega arith) (grind (arith, nat_tests)) in
    let whole : bytes ≡ later.word ++ 32 ∷ later.rest = later.whole in record {
      word = b ∷ later.word;
      rest = later.rest;
      no_space = (first, later.no_space);
      count = ap suc later.count;
      whole = ap (λ l. b ∷ l) whole;
    }

-- bytes among which no space is found have none
pub nowhere : (bytes : List ℕ) → Nowhere (Passes (is_byte 32) bytes) 0 (length bytes)
    → HasNoSpace bytes
nowhere [] none = tt
nowhere (b ∷ bytes) none =
    let first : (b ≡ 32) → ⊥ =
    λ e. none 0 (omega arith) (omega arith) (grind (arith, nat_tests)) in
    (first, nowhere bytes (passes_later b bytes (length bytes) none))

-- the first space, with what is before and behind it
pub parts_at : (bytes front back behind : List ℕ) (n : ℕ) → n < length bytes
    → Nowhere (Passes (is_byte 32) bytes) 0 n → Passes (is_byte 32) bytes n
    → front ≡ take n bytes → back ≡ drop n bytes → behind ≡ drop 1 back
    → HasNoSpace front × (bytes ≡ front ++ 32 ∷ behind)
parts_at bytes front back behind n within none is f b t =
    let s = splits_at_first bytes n within none is in
    let word : front ≡ s.word =
    f ∙ ap (take n) s.whole ∙ take_at s.word (32 ∷ s.rest) n s.count in
    let tail : back ≡ 32 ∷ s.rest =
    b ∙ ap (drop n) s.whole ∙ ap (λ m. drop m (s.word ++ 32 ∷ s.rest)) (sym s.count)
    ∙ drop-append_seam s.word (32 ∷ s.rest) in
    let rest : behind ≡ s.rest = t ∙ ap (drop 1) tail in (
      subst HasNoSpace (sym word) s.no_space,
      s.whole ∙ ap (λ l. l ++ 32 ∷ s.rest) (sym word) ∙ ap (λ l. front ++ 32 ∷ l) (sym rest),
    )
