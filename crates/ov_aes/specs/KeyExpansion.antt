-- The key expansion (FIPS 197, section 5.2), for a key of 32 bytes: Nk = 8, and 60 words.
use Rattle.std.specs.Prelude.{ℕ, zero, suc, ◌+◌, ◌-◌, ◌*◌, ◌/◌, ◌%◌, ◌==◌, if◌then◌else◌, List, [], ◌∷◌, ◌++◌, slice_index, take}
use Rattle.std.specs.List.{concat}
use Rattle.ov_aes.specs.Field.{power_of_x}
use Rattle.ov_aes.specs.State.{add_words, word_in, word_of}
use Rattle.ov_aes.specs.Cipher.{sbox}

-- 5.2: ROTWORD
abbrev pub rot_word : List ℕ → List ℕ
rot_word a = word_of (λ i. slice_index a ((i + 1) % 4))

-- 5.2: SUBWORD
abbrev pub sub_word : List ℕ → List ℕ
sub_word a = word_of (λ i. sbox (slice_index a i))

-- 5.2: the round constant Rcon[j]
abbrev pub rcon : ℕ → List ℕ
rcon j = power_of_x (j - 1) ∷ 0 ∷ 0 ∷ 0 ∷ []

-- 5.2: what is added to w[i - 8] for w[i], from the word w[i - 1]
unfoldable pub temp_word : ℕ → List ℕ → List ℕ
temp_word i previous =
    (if i % 8 == 0 then add_words (sub_word (rot_word previous)) (rcon (i / 8))
    else (if i % 8 == 4 then sub_word previous else previous))

-- 5.2: the first n words of the key
abbrev pub key_words : List ℕ → ℕ → List (List ℕ)
key_words key zero = []
key_words key (suc n) = key_words key n ++ word_of (λ j. slice_index key (4 * n + j)) ∷ []

-- 5.2: w[n + 8], from the words before it
abbrev pub next_word : List (List ℕ) → ℕ → List ℕ
next_word w n = add_words (word_in w n) (temp_word (n + 8) (word_in w (n + 7)))

-- 5.2: the first n + 8 words of the key schedule
unfoldable pub words_to : List ℕ → ℕ → List (List ℕ)
words_to key zero = key_words key 8
words_to key (suc n) = words_to key n ++ next_word (words_to key n) n ∷ []

-- 5.2: KEYEXPANSION, the 60 words of the key schedule
unfoldable pub key_expansion : List ℕ → List (List ℕ)
key_expansion key = words_to key 52

-- 5.2: the key that a key schedule begins with, as its first eight words
abbrev pub key_of : List (List ℕ) → List ℕ
key_of w = concat (take 8 w)
