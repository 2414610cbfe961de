-- The users of a set that is kept as words.
use Rattle.std.proofs.Common.{suc, zero, ℕ, ◌≡◌, ◌≢◌, ◌<◌, ◌≤◌, ◌+◌, ◌-◌, ◌*◌, ◌/◌, ◌%◌, ◌^◌, min, List, [], ◌∷◌, length, get_or, set, replicate, refl, sym, ◌∙◌, ap, arith, bit_and, bit_or, w64, ◌==◌, eq-eqb, inl, inr, get_or-set_same, get_or-set_other}
use Rattle.std.proofs.lemmas.List.{get_or-replicate, get_or_past, length-replicate}
use Rattle.std.proofs.lemmas.List.Sums.{sum_by-cons}
use Rattle.std.proofs.lemmas.Bool.{cases_eq, cases_lt, ne_eqb}
use Rattle.std.proofs.lemmas.Nat.{ones_cat, ones_le_self, or_lt, and_le_l}
use Rattle.std.proofs.lemmas.Nat.Bits.{bit_at-zero, bit_at_cat_low, bit_at_cat_high, bit_at_set_same, bit_at_set_other, bit_at_clear_same, bit_at_clear_other, bit_at-pow_same, bit_at-pow_other, bit_at_or, bit_at_and, bit_at_xor, bit_at-lt, same_from_bits, same_from_bits_below}
use Rattle.std.specs.Int.{bit_at, bit_not}
use Rattle.std.specs.Int.Count.{ones}
use Rattle.std.specs.List.{sum_by}
use lib.Pointwise.{pointwise}
use Rattle.ov_base.specs.Sets.{IsBelow, Within, with, without, union}
use Rattle.ov_base.specs.Words.{set_of_words}
use Rattle.ov_base.proofs.SetLaws.{Has-bit, bit-Has}

abbrev pub AllFit : List ℕ → Type 0
AllFit ws = (i : ℕ) → get_or ws i 0 < 2 ^ 64

-- a bit of the set is one of its word
pub bit_of_word : (ws : List ℕ) → AllFit ws → (n : ℕ) → bit_at (set_of_words ws) n ≡ bit_at (get_or ws (n / 64) 0) (n % 64)
bit_of_word [] fit n = bit_at-zero n ∙ sym (bit_at-zero (n % 64))
bit_of_word (w ∷ ws) fit n = elim (cases_lt n 64) [
  | inl below ↦
      let row : n / 64 ≡ 0 = omega arith in
      let col : n % 64 ≡ n = omega arith in
      rw (row, col) (bit_at_cat_low (set_of_words ws) 64 w n below)
  | inr above ↦
      let row : n / 64 ≡ suc ((n - 64) / 64) = omega arith in
      let col : n % 64 ≡ (n - 64) % 64 = omega arith in
      rw (row, col) (bit_at_cat_high (set_of_words ws) 64 w n (fit 0) above ∙ bit_of_word ws (λ i. fit (suc i)) (n - 64))
]

-- no user is past the words
pub past_words : (ws : List ℕ) → AllFit ws → (n : ℕ) → length ws ≤ n / 64 → bit_at (set_of_words ws) n ≡ 0
past_words ws fit n h = bit_of_word ws fit n ∙ ap (λ w. bit_at w (n % 64)) (get_or_past ws (n / 64) 0 h) ∙ bit_at-zero (n % 64)

pub words-IsBelow : (ws : List ℕ) → AllFit ws → IsBelow (64 * length ws) (set_of_words ws)
words-IsBelow ws fit n h = elim (cases_lt n (64 * length ws)) [
  | inl below ↦ below
  | inr above ↦
      let past : length ws ≤ n / 64 = omega arith in
      absurd (omega (arith, past_words ws fit n past, Has-bit (set_of_words ws) n h))
]

-- words with the bits of a set are the set
pub same_set : (ws : List ℕ) → AllFit ws → (s : ℕ) → ((n : ℕ) → bit_at (get_or ws (n / 64) 0) (n % 64) ≡ bit_at s n) → set_of_words ws ≡ s
same_set ws fit s each = same_from_bits _ _ (λ n. bit_of_word ws fit n ∙ each n)

pub zeros : (k : ℕ) → set_of_words (replicate k 0) ≡ 0
zeros zero = refl
zeros (suc k) = ap (λ n. n * 2 ^ 64 + 0) (zeros k)

pub ones_of_words : (ws : List ℕ) → AllFit ws → ones (set_of_words ws) ≡ sum_by ones ws
ones_of_words [] fit = let z : ones 0 ≤ 0 = ones_le_self 0 in omega arith
ones_of_words (w ∷ ws) fit = ones_cat 64 (set_of_words ws) w (fit 0) ∙ omega (arith, ones_of_words ws (λ i. fit (suc i)), sum_by-cons ones w ws)

-- words are equal exactly where their sets are
pub same_test : (ws vs : List ℕ) → AllFit ws → AllFit vs → length ws ≡ length vs → pointwise ◌==◌ ws vs ≡ (set_of_words ws == set_of_words vs)
same_test [] [] fw fv l = refl
same_test [] (v ∷ vs) fw fv l = absurd (omega arith)
same_test (w ∷ ws) [] fw fv l = absurd (omega arith)
same_test (w ∷ ws) (v ∷ vs) fw fv l =
    let small_w : w < 2 ^ 64 = fw 0 in
    let small_v : v < 2 ^ 64 = fv 0 in
    let rest = same_test ws vs (λ i. fw (suc i)) (λ i. fv (suc i)) (omega arith) in
    elim (cases_eq w v) [
      | inl e ↦ elim (cases_eq (set_of_words ws) (set_of_words vs)) [
        | inl f ↦ rw (eq-eqb w v e, rest, eq-eqb _ _ f) (sym (eq-eqb _ _ (omega arith)))
        | inr apart ↦ rw (eq-eqb w v e, rest, ne_eqb _ _ apart) (sym (ne_eqb _ _ (omega arith)))
      ]
      | inr apart ↦ rw (ne_eqb w v apart) (sym (ne_eqb _ _ (omega arith)))
    ]

-- ---- one word changed

fit_set : (ws : List ℕ) (k v : ℕ) → AllFit ws → k < length ws → v < 2 ^ 64 → AllFit (set ws k v)
fit_set ws k v fit h fv i = elim (cases_eq i k) [
  | inl same ↦ rw (same, get_or-set_same ws k v 0 h) fv
  | inr other ↦ rw (get_or-set_other ws k i v 0 other) (fit i)
]

change_word : (ws : List ℕ) → AllFit ws → (k v s : ℕ) → k < length ws → v < 2 ^ 64 → ((n : ℕ) → n / 64 ≡ k → bit_at v (n % 64) ≡ bit_at s n) → ((n : ℕ) → n / 64 ≢ k → bit_at (set_of_words ws) n ≡ bit_at s n) → set_of_words (set ws k v) ≡ s
change_word ws fit k v s inside fv here there = same_set (set ws k v) (fit_set ws k v fit inside fv) s (λ n. elim (cases_eq (n / 64) k) [
  | inl same ↦ rw (same, get_or-set_same ws k v 0 inside) (here n same)
  | inr other ↦ rw (get_or-set_other ws k (n / 64) v 0 other) (sym (bit_of_word ws fit n) ∙ there n other)
])

-- to set a bit of a word
pub set_bit : (ws : List ℕ) → AllFit ws → (u : ℕ) → u < 64 * length ws → set_of_words (set ws (u / 64) (bit_or (get_or ws (u / 64) 0) (1 * 2 ^ (u % 64) % 2 ^ 64))) ≡ with (set_of_words ws) u
set_bit ws fit u h =
    let w : ℕ = get_or ws (u / 64) 0 in
    let low : u % 64 < 64 = omega arith in
    change_word ws fit (u / 64) _ _ (omega arith) (or_lt 64 _ _ (fit (u / 64)) (omega arith))
    (λ n row. elim (cases_eq n u) [
      | inl same ↦ rw (same, bit_at_set_same w64 w (u % 64) low) (let p = bit_at_or (set_of_words ws) (2 ^ u) u in let q = bit_at-pow_same u in let r = bit_at-lt (set_of_words ws) u in omega arith)
      | inr other ↦
          let col : n % 64 ≢ u % 64 = omega arith in
          let p = bit_at_or (set_of_words ws) (2 ^ u) n in
          let q = bit_at-pow_other u n other in
          let e : bit_at w (n % 64) ≡ bit_at (set_of_words ws) n = ap (λ k. bit_at (get_or ws k 0) (n % 64)) (sym row) ∙ sym (bit_of_word ws fit n) in
          bit_at_set_other w64 w (u % 64) low (n % 64) col ∙ omega arith
    ])
    (λ n row.
    let other : n ≢ u = (λ same. row (ap (λ k. k / 64) same)) in
    let p = bit_at_or (set_of_words ws) (2 ^ u) n in let q = bit_at-pow_other u n other in omega arith)

-- to clear a bit of a word
pub clear_bit : (ws : List ℕ) → AllFit ws → (u : ℕ) → u < 64 * length ws → set_of_words (set ws (u / 64) (bit_and (get_or ws (u / 64) 0) (2 ^ 64 - 1 - 1 * 2 ^ (u % 64) % 2 ^ 64))) ≡ without (set_of_words ws) u
clear_bit ws fit u h =
    let w : ℕ = get_or ws (u / 64) 0 in
    let low : u % 64 < 64 = omega arith in
    let s : ℕ = set_of_words ws in
    let top = fit (u / 64) in
    change_word ws fit (u / 64) _ _ (omega arith) (omega (arith, top, and_le_l w (bit_not w64 (1 * 2 ^ (u % 64) % 2 ^ 64))))
    (λ n row. elim (cases_eq n u) [
      | inl same ↦ rw (same, bit_at_clear_same w64 w (u % 64) low) (let p = bit_at_xor s (bit_and s (2 ^ u)) u in let a = bit_at_and s (2 ^ u) u in let q = bit_at-pow_same u in let r = bit_at-lt s u in omega arith)
      | inr other ↦
          let col : n % 64 ≢ u % 64 = omega arith in
          let p = bit_at_xor s (bit_and s (2 ^ u)) n in let a = bit_at_and s (2 ^ u) n in
          let q = bit_at-pow_other u n other in let r = bit_at-lt s n in
          let e : bit_at w (n % 64) ≡ bit_at s n = ap (λ k. bit_at (get_or ws k 0) (n % 64)) (sym row) ∙ sym (bit_of_word ws fit n) in
          bit_at_clear_other w64 w (u % 64) low (n % 64) (omega arith) col ∙ omega arith
    ])
    (λ n row.
    let other : n ≢ u = (λ same. row (ap (λ k. k / 64) same)) in
    let p = bit_at_xor s (bit_and s (2 ^ u)) n in let a = bit_at_and s (2 ^ u) n in let q = bit_at-pow_other u n other in let r = bit_at-lt s n in omega arith)

-- ---- word by word

-- lists with the same words are one set, also where the one goes on with zeros
pub same_words : (ws vs : List ℕ) → AllFit ws → ((k : ℕ) → get_or vs k 0 ≡ get_or ws k 0)
    → set_of_words vs ≡ set_of_words ws
same_words ws vs fit each =
    same_set vs (λ k. rw (each k) (fit k)) _ (λ n.
    ap (λ w. bit_at w (n % 64)) (each (n / 64)) ∙ sym (bit_of_word ws fit n))

-- a list of zeros has none but zeros
pub zero_at : (count k : ℕ) → get_or (replicate {A = ℕ} count 0) k 0 ≡ 0
zero_at count k = elim (cases_lt k count) [
  | inl below ↦ get_or-replicate count k 0 0 below
  | inr above ↦ get_or_past (replicate {A = ℕ} count 0) k 0 (omega (arith, length-replicate {A = ℕ} count 0))
]

-- the words of a union
pub union_words : (ws vs us : List ℕ) → AllFit ws → AllFit vs → ((k : ℕ) → get_or us k 0 ≡ bit_or (get_or ws k 0) (get_or vs k 0)) → set_of_words us ≡ union (set_of_words ws) (set_of_words vs)
union_words ws vs us fw fv each = same_set us (λ k. rw (each k) (or_lt 64 _ _ (fw k) (fv k))) _ (λ n.
    let a = bit_of_word ws fw n in let b = bit_of_word vs fv n in
    let p = bit_at_or (set_of_words ws) (set_of_words vs) n in
    let q = bit_at_or (get_or ws (n / 64) 0) (get_or vs (n / 64) 0) (n % 64) in
    ap (λ w. bit_at w (n % 64)) (each (n / 64)) ∙ omega arith)

-- each word within the other one
pub within_words : (ws vs : List ℕ) → AllFit ws → AllFit vs → ((k : ℕ) → bit_and (get_or ws k 0) (get_or vs k 0) ≡ get_or ws k 0) → Within (set_of_words ws) (set_of_words vs)
within_words ws vs fw fv each n h =
    let e : bit_at (bit_and (get_or ws (n / 64) 0) (get_or vs (n / 64) 0)) (n % 64) ≡ bit_at (get_or ws (n / 64) 0) (n % 64) = ap (λ w. bit_at w (n % 64)) (each (n / 64)) in
    bit-Has _ n (omega (arith, e, bit_at_and (get_or ws (n / 64) 0) (get_or vs (n / 64) 0) (n % 64), bit_of_word ws fw n, bit_of_word vs fv n, Has-bit _ n h, bit_at-lt (get_or vs (n / 64) 0) (n % 64)))

within_bit : (a b c p q : ℕ) → c ≡ min a b → a < 2 → b < 2 → p ≡ a → q ≡ b → (p ≡ 1 → q ≡ 1) → c ≡ a
within_bit a b c p q x y z e f h = elim (cases_eq a 1) [ inl one ↦ let g = h (e ∙ one) in omega arith | inr none ↦ omega arith ]

-- where the set of the one words lies within that of the others, each word does too
pub words_within : (ws vs : List ℕ) → AllFit ws → AllFit vs → Within (set_of_words ws) (set_of_words vs) → (k : ℕ) → bit_and (get_or ws k 0) (get_or vs k 0) ≡ get_or ws k 0
words_within ws vs fw fv all k =
    let a : ℕ = get_or ws k 0 in let b : ℕ = get_or vs k 0 in
    same_from_bits_below 64 (bit_and a b) a (omega (arith, and_le_l a b, fw k)) (fw k) (λ j low.
    let n : ℕ = 64 * k + j in
    let row : n / 64 ≡ k = omega arith in
    let col : n % 64 ≡ j = omega arith in
    let p : bit_at (set_of_words ws) n ≡ bit_at a j = bit_of_word ws fw n ∙ rw (row, col) refl in
    let q : bit_at (set_of_words vs) n ≡ bit_at b j = bit_of_word vs fv n ∙ rw (row, col) refl in
    let h : bit_at (set_of_words ws) n ≡ 1 → bit_at (set_of_words vs) n ≡ 1 = λ one. Has-bit _ n (all n (bit-Has _ n one)) in
    let x = bit_at_and a b j in let y = bit_at-lt a j in let z = bit_at-lt b j in
    within_bit _ _ _ _ _ x y z p q h)

pub past_or : (ws vs : List ℕ) (k : ℕ) → length ws ≤ k → length vs ≤ k → get_or ws k 0 ≡ bit_or (get_or ws k 0) (get_or vs k 0)
past_or ws vs k h j = rw (get_or_past ws k 0 h, get_or_past vs k 0 j) refl

pub past_and : (ws vs : List ℕ) (k : ℕ) → length ws ≤ k → bit_and (get_or ws k 0) (get_or vs k 0) ≡ get_or ws k 0
past_and ws vs k h = rw (get_or_past ws k 0 h) (let e = and_le_l 0 (get_or vs k 0) in omega arith)

-- ---- words that have a bit in common

-- a bit of what two sets have in common is one of what their words have
both_words : (ws vs : List ℕ) → AllFit ws → AllFit vs → (n : ℕ)
    → bit_at (bit_and (set_of_words ws) (set_of_words vs)) n
    ≡ bit_at (bit_and (get_or ws (n / 64) 0) (get_or vs (n / 64) 0)) (n % 64)
both_words ws vs fw fv n =
    bit_at_and (set_of_words ws) (set_of_words vs) n
    ∙ ap (λ x. min x (bit_at (set_of_words vs) n)) (bit_of_word ws fw n)
    ∙ ap (λ y. min (bit_at (get_or ws (n / 64) 0) (n % 64)) y) (bit_of_word vs fv n)
    ∙ sym (bit_at_and (get_or ws (n / 64) 0) (get_or vs (n / 64) 0) (n % 64))

-- sets have nothing in common where no word has
pub words_apart : (ws vs : List ℕ) → AllFit ws → AllFit vs
    → ((k : ℕ) → bit_and (get_or ws k 0) (get_or vs k 0) ≡ 0)
    → bit_and (set_of_words ws) (set_of_words vs) ≡ 0
words_apart ws vs fw fv each = same_from_bits (bit_and (set_of_words ws) (set_of_words vs)) 0 (λ n.
    both_words ws vs fw fv n ∙ ap (λ w. bit_at w (n % 64)) (each (n / 64)) ∙ bit_at-zero (n % 64)
    ∙ sym (bit_at-zero n))

-- and no word has where they have nothing
pub apart_words : (ws vs : List ℕ) → AllFit ws → AllFit vs
    → bit_and (set_of_words ws) (set_of_words vs) ≡ 0
    → (k : ℕ) → bit_and (get_or ws k 0) (get_or vs k 0) ≡ 0
apart_words ws vs fw fv none k =
    let a : ℕ = get_or ws k 0 in let b : ℕ = get_or vs k 0 in
    same_from_bits_below 64 (bit_and a b) 0 (omega (arith, and_le_l a b, fw k)) (omega arith) (λ j low.
    let n : ℕ = 64 * k + j in
    let row : n / 64 ≡ k = omega arith in
    let col : n % 64 ≡ j = omega arith in
    let here : bit_at (bit_and (set_of_words ws) (set_of_words vs)) n ≡ bit_at (bit_and a b) j =
    both_words ws vs fw fv n ∙ rw (row, col) refl in
    sym here ∙ ap (λ s. bit_at s n) none ∙ bit_at-zero n ∙ sym (bit_at-zero j))

-- past the words nothing is in common
pub past_both : (ws vs : List ℕ) (k : ℕ) → length ws ≤ k → bit_and (get_or ws k 0) (get_or vs k 0) ≡ 0
past_both ws vs k h =
    rw (get_or_past ws k 0 h) (let e = and_le_l 0 (get_or vs k 0) in omega arith)
