-- The state and words (FIPS 197, sections 3.4 and 3.5).
use Rattle.std.specs.Prelude.{ℕ, ◌+◌, ◌*◌, List, [], ◌∷◌, slice_index, slice_index_or}
use Rattle.ov_aes.specs.Field.{add}

-- 3.4: the state whose byte in row r and column c is f r c, as a block: that byte is at r + 4 c
abbrev pub state_of : (ℕ → ℕ → ℕ) → List ℕ
state_of f =
    f 0 0 ∷ f 1 0 ∷ f 2 0 ∷ f 3 0
    ∷ f 0 1 ∷ f 1 1 ∷ f 2 1 ∷ f 3 1
    ∷ f 0 2 ∷ f 1 2 ∷ f 2 2 ∷ f 3 2
    ∷ f 0 3 ∷ f 1 3 ∷ f 2 3 ∷ f 3 3
    ∷ []

-- 3.4: the byte of the state s in row r and column c
abbrev pub byte_in : List ℕ → ℕ → ℕ → ℕ
byte_in s r c = slice_index s (r + 4 * c)

-- 3.5: the word whose byte i is f i
abbrev pub word_of : (ℕ → ℕ) → List ℕ
word_of f = f 0 ∷ f 1 ∷ f 2 ∷ f 3 ∷ []

-- 3.5: word i of an array of words
abbrev pub word_in : List (List ℕ) → ℕ → List ℕ
word_in w i = slice_index_or w i []

-- 3.5: column c of the state s, as a word
abbrev pub column_in : List ℕ → ℕ → List ℕ
column_in s c = word_of (λ r. byte_in s r c)

-- 5.2: the sum of two words, byte by byte
abbrev pub add_words : List ℕ → List ℕ → List ℕ
add_words a b = word_of (λ i. add (slice_index a i) (slice_index b i))
