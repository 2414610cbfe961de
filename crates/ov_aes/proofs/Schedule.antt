-- The words of the key schedule, one at a time.
use Rattle.std.proofs.Common.{◌≡◌, ℕ, zero, suc, ◌+◌, ◌-◌, ◌*◌, ◌<◌, ◌≤◌, arith, refl, sym, ◌∙◌, length, get_or, List, [], take, set, add-one, slice_index, length-append, zero-add}
use Rattle.std.proofs.lemmas.List.{ext_get_or, take_more_set, take-append-le, get_or-take}
use Rattle.std.proofs.lemmas.List.FromFn.{get_or-map-range_with_len}
use Rattle.std.proofs.lemmas.Grind.{take-set_at}
use Rattle.ov_aes.specs.KeyExpansion.{key_expansion, key_of, key_words, next_word, temp_word, words_to}
use Rattle.ov_aes.specs.State.{add_words, word_in, word_of}

pub key_step : (w : List (List ℕ)) (key : List ℕ) (n : ℕ) (x : List ℕ) → n < length w → take n w ≡ key_words key n
    → x ≡ word_of (λ j. slice_index key (4 * n + j)) → take (n + 1) (set w n x) ≡ key_words key (n + 1)
key_step w key n x lt held e = take_more_set w n x lt ∙ rw (held, e, add-one n) refl

next_step : (w : List (List ℕ)) (key : List ℕ) (n : ℕ) (x : List ℕ) → n + 8 < length w → take (n + 8) w ≡ words_to key n
    → x ≡ next_word w n → take (n + 1 + 8) (set w (n + 8) x) ≡ words_to key (n + 1)
unfolding words_to
next_step w key n x lt held e =
    let a : get_or (take (n + 8) w) n [] ≡ get_or w n [] = get_or-take (n + 8) w n [] (omega arith) in
    let b : get_or (take (n + 8) w) (n + 7) [] ≡ get_or w (n + 7) [] = get_or-take (n + 8) w (n + 7) [] (omega arith) in
    let same : next_word (take (n + 8) w) n ≡ next_word w n = rw (a, b) refl in
    take-set_at w (n + 8) (n + 1 + 8) x (omega arith) lt ∙ rw (e, ← same, held, add-one) refl

-- word i, from the words before it
pub word_step : (w : List (List ℕ)) (key : List ℕ) (i : ℕ) (x : List ℕ) → 8 ≤ i → i < length w → take i w ≡ words_to key (i - 8)
    → x ≡ add_words (word_in w (i - 8)) (temp_word i (word_in w (i - 1))) → take (i + 1) (set w i x) ≡ words_to key (i + 1 - 8)
word_step w key i x ge lt held e =
    let here : i - 8 + 8 ≡ i = omega arith in
    let back : i - 8 + 7 ≡ i - 1 = omega arith in
    let on : i - 8 + 1 + 8 ≡ i + 1 = omega arith in
    let after : i + 1 - 8 ≡ i - 8 + 1 = omega arith in
    let front : take (i - 8 + 8) w ≡ words_to key (i - 8) = rw here held in
    let next : x ≡ next_word w (i - 8) = rw (here, back) e in
    let step = next_step w key (i - 8) x (omega arith) front next in
    rw after (rw (on, here) at step)

long : (key : List ℕ) (n : ℕ) → 8 ≤ length (words_to key n)
unfolding words_to
long key zero = omega arith
long key (suc n) = let before = long key n in simp length-append (omega arith)

-- the first eight words of the key schedule are the key's
first_words : (key : List ℕ) (n : ℕ) → take 8 (words_to key n) ≡ key_words key 8
unfolding words_to
first_words key zero = refl
first_words key (suc n) = take-append-le 8 (words_to key n) _ (long key n) ∙ first_words key n

pub key_of_expansion : (key : List ℕ) → length key ≡ 32 → key_of (key_expansion key) ≡ key
unfolding key_expansion
key_of_expansion key len =
    rw (first_words key 52) (ext_get_or 0 _ _ (sym len) (λ i lt. get_or-map-range_with_len (λ j. get_or key j 0) 0 32 i i 0 lt (zero-add i)))
