-- Words of 64 bits as bytes.
use Rattle.std.proofs.Common.{ℕ, suc, zero, ◌≡◌, ◌<◌, ◌≤◌, ◌+◌, ◌-◌, ◌*◌, ◌/◌, ◌%◌, ◌^◌, List, [], ◌∷◌, ◌++◌, length, take, drop, get_or, refl, sym, ◌∙◌, ap, arith, w64, inl, inr}
use Rattle.std.specs.Int.{to_le_bytes, from_le_bytes, bytes_low_first, byte_at}
use Rattle.std.proofs.lemmas.Bool.{cases_lt}
use Rattle.std.proofs.lemmas.List.{get_or-append_right, get_or_append_left, length-drop, length-take, take-append-drop, drop-drop}
use Rattle.std.proofs.lemmas.Nat.{pow-add}
use Rattle.std.proofs.Math.Nat.{pow-suc, div-div-eq-div-mul}
use Rattle.ov_base.specs.Sets.{bytes_of, set_of_bytes}
use Rattle.ov_base.specs.Words.{set_of_words}
use Rattle.ov_base.proofs.SetBytes.{length-bytes_of, bytes_of-two, set_of_bytes-append}
use Rattle.ov_base.proofs.WordBits.{AllFit}

low_bytes : (i count n : ℕ) → bytes_low_first i count n ≡ bytes_of count (n / 256 ^ i)
unfolding bytes_of
low_bytes i zero n = refl
low_bytes i (suc count) n =
    let rest : n / 256 ^ i / 256 ≡ n / 256 ^ suc i = div-div-eq-div-mul n (256 ^ i) 256 ∙ ap (λ p. n / p) (sym (pow-suc 256 i)) in
    rw (low_bytes (suc i) count n, rest) (ap (λ b. b ∷ bytes_of count (n / 256 ^ suc i)) (lowest i)) where
      lowest : (i : ℕ) → byte_at i n ≡ n / 256 ^ i % 256
      lowest zero = omega arith
      lowest (suc i) = refl

-- the bytes of a word
pub word_bytes : (n : ℕ) → to_le_bytes w64 n ≡ bytes_of 8 n
word_bytes n = low_bytes 0 8 n ∙ ap (λ m. bytes_of 8 m) (omega arith)

-- the bytes of a set are those of its words
pub byte_of_words : (ws : List ℕ) → AllFit ws → (i : ℕ) → i < 8 * length ws → get_or (bytes_of (8 * length ws) (set_of_words ws)) i 0 ≡ get_or (to_le_bytes w64 (get_or ws (i / 8) 0)) (i % 8) 0
byte_of_words [] fit i h = absurd (omega arith)
byte_of_words (w ∷ ws) fit i h =
    let count : 8 * length (w ∷ ws) ≡ 8 + 8 * length ws = omega arith in
    let parts : bytes_of (8 + 8 * length ws) (set_of_words ws * 256 ^ 8 + w) ≡ bytes_of 8 w ++ bytes_of (8 * length ws) (set_of_words ws) = bytes_of-two 8 (8 * length ws) w (set_of_words ws) (fit 0) in
    let long = length-bytes_of 8 w in
    rw (count, parts) (elim (cases_lt i 8) [
      | inl first ↦
          let row : i / 8 ≡ 0 = omega arith in
          let col : i % 8 ≡ i = omega arith in
          rw (row, col, word_bytes w) (get_or_append_left (bytes_of 8 w) _ 0 i (omega arith))
      | inr later ↦
          let row : i / 8 ≡ suc ((i - 8) / 8) = omega arith in
          let col : i % 8 ≡ (i - 8) % 8 = omega arith in
          rw (row, col) (get_or-append_right (bytes_of 8 w) _ 8 i 0 long later ∙ byte_of_words ws (λ k. fit (suc k)) (i - 8) (omega arith))
    ])

-- words fit eight bytes each
pub words_below : (ws : List ℕ) → AllFit ws → set_of_words ws < 256 ^ (8 * length ws)
words_below [] fit = omega arith
words_below (w ∷ ws) fit =
    let count : 8 * length (w ∷ ws) ≡ 8 * length ws + 8 = omega arith in
    let power : 256 ^ (8 * length ws + 8) ≡ 256 ^ (8 * length ws) * 256 ^ 8 = pow-add 256 (8 * length ws) 8 in
    rw (count, power) (omega (arith, fit 0, words_below ws (λ i. fit (suc i))))

-- the word of eight bytes
pub eight_bytes : (bytes : List ℕ) → 8 ≤ length bytes → from_le_bytes w64 bytes ≡ set_of_bytes (take 8 bytes)
unfolding set_of_bytes
eight_bytes (a ∷ b ∷ c ∷ d ∷ e ∷ f ∷ g ∷ h ∷ rest) long = omega arith
eight_bytes bytes long = absurd (omega arith)

-- words that are read eight bytes at a time
pub read_words : (ws bytes : List ℕ) → length bytes ≡ 8 * length ws → ((k : ℕ) → k < length ws → get_or ws k 0 ≡ set_of_bytes (take 8 (drop (8 * k) bytes))) → set_of_words ws ≡ set_of_bytes bytes
unfolding set_of_bytes
read_words [] [] long each = refl
read_words [] (b ∷ bytes) long each = absurd (omega arith)
read_words (w ∷ ws) bytes long each =
    let first : w ≡ set_of_bytes (take 8 bytes) = each 0 (omega arith) in
    let eight : length (take 8 bytes) ≡ 8 = omega (arith, length-take 8 bytes) in
    let rest : set_of_words ws ≡ set_of_bytes (drop 8 bytes) =
    read_words ws (drop 8 bytes) (omega (arith, length-drop 8 bytes)) (λ k h.
    each (suc k) (omega arith) ∙ ap (λ bs. set_of_bytes (take 8 bs)) (ap (λ j. drop j bytes) (omega arith) ∙ sym (drop-drop (8 * k) 8 bytes))) in
    let whole = set_of_bytes-append (take 8 bytes) (drop 8 bytes) in
    ap (λ n. n * 2 ^ 64 + w) rest ∙ ap (λ n. set_of_bytes (drop 8 bytes) * 2 ^ 64 + n) first ∙ sym (ap (λ n. set_of_bytes (drop 8 bytes) * 256 ^ n + set_of_bytes (take 8 bytes)) eight) ∙ sym whole ∙ ap set_of_bytes (take-append-drop 8 bytes)
