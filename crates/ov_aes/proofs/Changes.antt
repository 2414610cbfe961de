-- A round of two states that differ in one term of each sum.
use Rattle.std.proofs.Common.{◌≡◌, ℕ, ◌+◌, ◌<◌, ◌≤◌, List, bit_xor, refl, sym, ◌∙◌, ap, arith, slice_index}
use Rattle.std.specs.Int.Bits.{xor_self, xor_zero_r}
use Rattle.std.proofs.lemmas.Nat.{xor_comm}
use lib.Bits.{xor_assoc}
use Rattle.ov_aes.specs.Cipher.{add_round_key, full_round, rounds, sbox}
use Rattle.ov_aes.specs.Fronts.{row_for, scaled, weighed, weight, with_last}
use Rattle.ov_aes.specs.State.{byte_in, state_of, word_in}
use Rattle.ov_aes.specs.Tower.{from_tower, sum5}
use Rattle.ov_aes.specs.Rows.{held_in, lane_in}
use Rattle.ov_aes.proofs.Linear.{xor_swap}
use Rattle.ov_aes.proofs.RowLanes.{below_four}
use Rattle.ov_aes.proofs.RowRounds.{Column, columns}

-- ---- a sum of five, by each of its terms

swap_last : (x y z : ℕ) → bit_xor (bit_xor x y) z ≡ bit_xor (bit_xor x z) y
swap_last x y z = xor_assoc x y z ∙ ap (bit_xor x) (xor_comm y z) ∙ sym (xor_assoc x z y)

at_fourth : (a b c d k : ℕ) → sum5 a b c d k ≡ bit_xor (bit_xor (bit_xor (bit_xor a b) c) k) d
at_fourth a b c d k = swap_last (bit_xor (bit_xor a b) c) d k

at_third : (a b c d k : ℕ) → sum5 a b c d k ≡ bit_xor (bit_xor (bit_xor (bit_xor a b) d) k) c
at_third a b c d k = ap (λ t. bit_xor t k) (swap_last (bit_xor a b) c d) ∙ swap_last (bit_xor (bit_xor a b) d) c k

at_second : (a b c d k : ℕ) → sum5 a b c d k ≡ bit_xor (bit_xor (bit_xor (bit_xor a c) d) k) b
at_second a b c d k =
    ap (λ t. bit_xor (bit_xor t d) k) (swap_last a b c)
    ∙ ap (λ t. bit_xor t k) (swap_last (bit_xor a c) b d)
    ∙ swap_last (bit_xor (bit_xor a c) d) b k

at_first : (a b c d k : ℕ) → sum5 a b c d k ≡ bit_xor (bit_xor (bit_xor (bit_xor b c) d) k) a
at_first a b c d k = ap (λ t. bit_xor (bit_xor (bit_xor t c) d) k) (xor_comm a b) ∙ at_second b a c d k

-- ---- a term that changes from a to b, with a constant in both

-- a term added twice is gone
pub xor_twice : (b p : ℕ) → bit_xor (bit_xor b p) p ≡ b
xor_twice b p = xor_assoc b p p ∙ ap (bit_xor b) (xor_self p) ∙ xor_zero_r b

changed : (x a b k : ℕ) → bit_xor x b ≡ bit_xor (bit_xor (bit_xor x a) (bit_xor a k)) (bit_xor b k)
changed x a b k =
    sym (ap (λ t. bit_xor t (bit_xor b k)) (sym (xor_assoc (bit_xor x a) a k) ∙ ap (λ t. bit_xor t k) (xor_twice x a))
    ∙ xor_swap x k b k ∙ ap (bit_xor (bit_xor x b)) (xor_self k) ∙ xor_zero_r (bit_xor x b))

-- a sum with a for its term and one with b
changes : (s t x a b k : ℕ) → s ≡ bit_xor x a → t ≡ bit_xor x b → t ≡ bit_xor (bit_xor s (bit_xor a k)) (bit_xor b k)
changes s t x a b k es et = et ∙ changed x a b k ∙ ap (λ u. bit_xor (bit_xor u (bit_xor a k)) (bit_xor b k)) (sym es)

-- the byte of a round from four bytes before it, with a row's weights
abbrev byte_of : ℕ → ℕ → ℕ → ℕ → ℕ → ℕ → ℕ → ℕ → ℕ → ℕ
byte_of m n o p a b c d k = sum5 (scaled m (sbox a)) (scaled n (sbox b)) (scaled o (sbox c)) (scaled p (sbox d)) k

first_changes : (m n o p a e k : ℕ) {b c d f g h : ℕ} → f ≡ b → g ≡ c → h ≡ d
    → byte_of m n o p e f g h k ≡ bit_xor (bit_xor (byte_of m n o p a b c d k) (weighed m a)) (weighed m e)
first_changes m n o p a e k {b} {c} {d} {f} {g} {h} ef eg eh =
    (λ i. byte_of m n o p e (ef i) (eg i) (eh i) k)
    ∙ changes _ _ _ _ _ (scaled m 0x63)
    (at_first (scaled m (sbox a)) (scaled n (sbox b)) (scaled o (sbox c)) (scaled p (sbox d)) k)
    (at_first (scaled m (sbox e)) (scaled n (sbox b)) (scaled o (sbox c)) (scaled p (sbox d)) k)

second_changes : (m n o p b f k : ℕ) {a c d e g h : ℕ} → e ≡ a → g ≡ c → h ≡ d
    → byte_of m n o p e f g h k ≡ bit_xor (bit_xor (byte_of m n o p a b c d k) (weighed n b)) (weighed n f)
second_changes m n o p b f k {a} {c} {d} {e} {g} {h} ee eg eh =
    (λ i. byte_of m n o p (ee i) f (eg i) (eh i) k)
    ∙ changes _ _ _ _ _ (scaled n 0x63)
    (at_second (scaled m (sbox a)) (scaled n (sbox b)) (scaled o (sbox c)) (scaled p (sbox d)) k)
    (at_second (scaled m (sbox a)) (scaled n (sbox f)) (scaled o (sbox c)) (scaled p (sbox d)) k)

third_changes : (m n o p c g k : ℕ) {a b d e f h : ℕ} → e ≡ a → f ≡ b → h ≡ d
    → byte_of m n o p e f g h k ≡ bit_xor (bit_xor (byte_of m n o p a b c d k) (weighed o c)) (weighed o g)
third_changes m n o p c g k {a} {b} {d} {e} {f} {h} ee ef eh =
    (λ i. byte_of m n o p (ee i) (ef i) g (eh i) k)
    ∙ changes _ _ _ _ _ (scaled o 0x63)
    (at_third (scaled m (sbox a)) (scaled n (sbox b)) (scaled o (sbox c)) (scaled p (sbox d)) k)
    (at_third (scaled m (sbox a)) (scaled n (sbox b)) (scaled o (sbox g)) (scaled p (sbox d)) k)

fourth_changes : (m n o p d h k : ℕ) {a b c e f g : ℕ} → e ≡ a → f ≡ b → g ≡ c
    → byte_of m n o p e f g h k ≡ bit_xor (bit_xor (byte_of m n o p a b c d k) (weighed p d)) (weighed p h)
fourth_changes m n o p d h k {a} {b} {c} {e} {f} {g} ee ef eg =
    (λ i. byte_of m n o p (ee i) (ef i) (eg i) h k)
    ∙ changes _ _ _ _ _ (scaled p 0x63)
    (at_fourth (scaled m (sbox a)) (scaled n (sbox b)) (scaled o (sbox c)) (scaled p (sbox d)) k)
    (at_fourth (scaled m (sbox a)) (scaled n (sbox b)) (scaled o (sbox c)) (scaled p (sbox h)) k)

none_changes : (m n o p k : ℕ) {a b c d e f g h : ℕ} → e ≡ a → f ≡ b → g ≡ c → h ≡ d
    → byte_of m n o p e f g h k ≡ byte_of m n o p a b c d k
none_changes m n o p k ee ef eg eh = λ i. byte_of m n o p (ee i) (ef i) (eg i) (eh i) k

-- what holds of each row and each column
pub below_fours : (P : ℕ → ℕ → Type 0) → P 0 0 → P 0 1 → P 0 2 → P 0 3 → P 1 0 → P 1 1 → P 1 2 → P 1 3
    → P 2 0 → P 2 1 → P 2 2 → P 2 3 → P 3 0 → P 3 1 → P 3 2 → P 3 3 → (r c : ℕ) → r < 4 → c < 4 → P r c
below_fours P a b c d e f g h i j k l m n o p row col lr lc =
    below_four (λ r. (x : ℕ) → x < 4 → P r x)
    (below_four (P 0) a b c d) (below_four (P 1) e f g h) (below_four (P 2) i j k l) (below_four (P 3) m n o p) row lr col lc

-- a byte of the state after a round, where the states before it differ in column 0 alone
pub round_of_column : (s t : List ℕ) (w : List (List ℕ)) (n : ℕ)
    → ((r c : ℕ) → r < 4 → 1 ≤ c → c < 4 → byte_in t r c ≡ byte_in s r c) → (r c : ℕ) → r < 4 → c < 4
    → byte_in (full_round t w n) r c
    ≡ bit_xor (bit_xor (byte_in (full_round s w n) r c) (weighed (weight r (row_for c)) (byte_in s (row_for c) 0)))
    (weighed (weight r (row_for c)) (byte_in t (row_for c) 0))
unfolding full_round
round_of_column s t w n same =
    let q : (r c : ℕ) → r < 4 → 1 ≤ c → c < 4 → byte_in t r c ≡ byte_in s r c = same in
    let q01 = q 0 1 (omega arith) (omega arith) (omega arith) in
    let q02 = q 0 2 (omega arith) (omega arith) (omega arith) in
    let q03 = q 0 3 (omega arith) (omega arith) (omega arith) in
    let q11 = q 1 1 (omega arith) (omega arith) (omega arith) in
    let q12 = q 1 2 (omega arith) (omega arith) (omega arith) in
    let q13 = q 1 3 (omega arith) (omega arith) (omega arith) in
    let q21 = q 2 1 (omega arith) (omega arith) (omega arith) in
    let q22 = q 2 2 (omega arith) (omega arith) (omega arith) in
    let q23 = q 2 3 (omega arith) (omega arith) (omega arith) in
    let q31 = q 3 1 (omega arith) (omega arith) (omega arith) in
    let q32 = q 3 2 (omega arith) (omega arith) (omega arith) in
    let q33 = q 3 3 (omega arith) (omega arith) (omega arith) in
    below_fours (λ r c. byte_in (full_round t w n) r c
    ≡ bit_xor (bit_xor (byte_in (full_round s w n) r c) (weighed (weight r (row_for c)) (byte_in s (row_for c) 0)))
    (weighed (weight r (row_for c)) (byte_in t (row_for c) 0)))
    (first_changes 2 3 1 1 _ _ _ q11 q22 q33) (fourth_changes 2 3 1 1 _ _ _ q01 q12 q23) (third_changes 2 3 1 1 _ _ _ q02 q13 q31) (second_changes 2 3 1 1 _ _ _ q03 q21 q32)
    (first_changes 1 2 3 1 _ _ _ q11 q22 q33) (fourth_changes 1 2 3 1 _ _ _ q01 q12 q23) (third_changes 1 2 3 1 _ _ _ q02 q13 q31) (second_changes 1 2 3 1 _ _ _ q03 q21 q32)
    (first_changes 1 1 2 3 _ _ _ q11 q22 q33) (fourth_changes 1 1 2 3 _ _ _ q01 q12 q23) (third_changes 1 1 2 3 _ _ _ q02 q13 q31) (second_changes 1 1 2 3 _ _ _ q03 q21 q32)
    (first_changes 3 1 1 2 _ _ _ q11 q22 q33) (fourth_changes 3 1 1 2 _ _ _ q01 q12 q23) (third_changes 3 1 1 2 _ _ _ q02 q13 q31) (second_changes 3 1 1 2 _ _ _ q03 q21 q32)

-- a byte of the state after a round, where the states before it differ in the byte of row 3 and
-- column 3 alone
pub round_of_byte : (s t : List ℕ) (w : List (List ℕ)) (n : ℕ)
    → ((r c : ℕ) → r < 4 → c < 4 → r + c < 6 → byte_in t r c ≡ byte_in s r c) → (r : ℕ) → r < 4
    → byte_in (full_round t w n) r 0
    ≡ bit_xor (bit_xor (byte_in (full_round s w n) r 0) (weighed (weight r 3) (byte_in s 3 3))) (weighed (weight r 3) (byte_in t 3 3))
unfolding full_round
round_of_byte s t w n same =
    let q00 = same 0 0 (omega arith) (omega arith) (omega arith) in
    let q11 = same 1 1 (omega arith) (omega arith) (omega arith) in
    let q22 = same 2 2 (omega arith) (omega arith) (omega arith) in
    below_four (λ r. byte_in (full_round t w n) r 0
    ≡ bit_xor (bit_xor (byte_in (full_round s w n) r 0) (weighed (weight r 3) (byte_in s 3 3))) (weighed (weight r 3) (byte_in t 3 3)))
    (fourth_changes 2 3 1 1 _ _ _ q00 q11 q22) (fourth_changes 1 2 3 1 _ _ _ q00 q11 q22) (fourth_changes 1 1 2 3 _ _ _ q00 q11 q22) (fourth_changes 3 1 1 2 _ _ _ q00 q11 q22)

-- the bytes of the other columns after a round are the same, where the states before it differ in
-- the byte of row 3 and column 3 alone
pub round_beside : (s t : List ℕ) (w : List (List ℕ)) (n : ℕ)
    → ((r c : ℕ) → r < 4 → c < 4 → r + c < 6 → byte_in t r c ≡ byte_in s r c) → (r c : ℕ) → r < 4 → 1 ≤ c → c < 4
    → byte_in (full_round t w n) r c ≡ byte_in (full_round s w n) r c
unfolding full_round
round_beside s t w n same r c lr ge lc =
    let q01 = same 0 1 (omega arith) (omega arith) (omega arith) in
    let q02 = same 0 2 (omega arith) (omega arith) (omega arith) in
    let q03 = same 0 3 (omega arith) (omega arith) (omega arith) in
    let q10 = same 1 0 (omega arith) (omega arith) (omega arith) in
    let q12 = same 1 2 (omega arith) (omega arith) (omega arith) in
    let q13 = same 1 3 (omega arith) (omega arith) (omega arith) in
    let q20 = same 2 0 (omega arith) (omega arith) (omega arith) in
    let q21 = same 2 1 (omega arith) (omega arith) (omega arith) in
    let q23 = same 2 3 (omega arith) (omega arith) (omega arith) in
    let q30 = same 3 0 (omega arith) (omega arith) (omega arith) in
    let q31 = same 3 1 (omega arith) (omega arith) (omega arith) in
    let q32 = same 3 2 (omega arith) (omega arith) (omega arith) in
    below_fours (λ r c. 1 ≤ c → byte_in (full_round t w n) r c ≡ byte_in (full_round s w n) r c)
    (λ ge. absurd (omega arith)) (λ ge. none_changes 2 3 1 1 _ q01 q12 q23 q30) (λ ge. none_changes 2 3 1 1 _ q02 q13 q20 q31) (λ ge. none_changes 2 3 1 1 _ q03 q10 q21 q32)
    (λ ge. absurd (omega arith)) (λ ge. none_changes 1 2 3 1 _ q01 q12 q23 q30) (λ ge. none_changes 1 2 3 1 _ q02 q13 q20 q31) (λ ge. none_changes 1 2 3 1 _ q03 q10 q21 q32)
    (λ ge. absurd (omega arith)) (λ ge. none_changes 1 1 2 3 _ q01 q12 q23 q30) (λ ge. none_changes 1 1 2 3 _ q02 q13 q20 q31) (λ ge. none_changes 1 1 2 3 _ q03 q10 q21 q32)
    (λ ge. absurd (omega arith)) (λ ge. none_changes 3 1 1 2 _ q01 q12 q23 q30) (λ ge. none_changes 3 1 1 2 _ q02 q13 q20 q31) (λ ge. none_changes 3 1 1 2 _ q03 q10 q21 q32)
    r c lr lc ge

-- ---- a block and one that differs from it in its last byte

-- before round 1 only the last byte's place differs
with_last-0 : (w : List (List ℕ)) (block : List ℕ) (x r c : ℕ) → r < 4 → c < 4 → r + c < 6
    → byte_in (rounds w (with_last block x) 0) r c ≡ byte_in (rounds w block 0) r c
unfolding rounds
with_last-0 w block x = below_fours (λ r c. r + c < 6 → byte_in (rounds w (with_last block x) 0) r c ≡ byte_in (rounds w block 0) r c)
    (λ lt. refl) (λ lt. refl) (λ lt. refl) (λ lt. refl) (λ lt. refl) (λ lt. refl) (λ lt. refl) (λ lt. refl)
    (λ lt. refl) (λ lt. refl) (λ lt. refl) (λ lt. refl) (λ lt. refl) (λ lt. refl) (λ lt. refl) (λ lt. absurd (omega arith))

-- column 0 after round 1
pub with_last-1 : (w : List (List ℕ)) (block : List ℕ) (x r : ℕ) → r < 4
    → byte_in (rounds w (with_last block x) 1) r 0
    ≡ bit_xor (bit_xor (byte_in (rounds w block 1) r 0) (weighed (weight r 3) (byte_in (rounds w block 0) 3 3)))
    (weighed (weight r 3) (bit_xor x (slice_index (word_in w 3) 3)))
unfolding rounds
with_last-1 w block x = round_of_byte (rounds w block 0) (rounds w (with_last block x) 0) w 1 (with_last-0 w block x)

-- all of round 2
pub with_last-2 : (w : List (List ℕ)) (block : List ℕ) (x r c : ℕ) → r < 4 → c < 4
    → byte_in (rounds w (with_last block x) 2) r c
    ≡ bit_xor (bit_xor (byte_in (rounds w block 2) r c) (weighed (weight r (row_for c)) (byte_in (rounds w block 1) (row_for c) 0)))
    (weighed (weight r (row_for c)) (byte_in (rounds w (with_last block x) 1) (row_for c) 0))
unfolding rounds
with_last-2 w block x = round_of_column (rounds w block 1) (rounds w (with_last block x) 1) w 2
    (round_beside (rounds w block 0) (rounds w (with_last block x) 0) w 1 (with_last-0 w block x))

-- two states whose bytes are the same
pub by_bytes : (f g : ℕ → ℕ → ℕ) → ((r c : ℕ) → r < 4 → c < 4 → f r c ≡ g r c) → state_of f ≡ state_of g
by_bytes f g same =
    let column : (c : ℕ) → c < 4 → Column f g c = λ c lc. record { first = same 0 c (omega arith) lc; second = same 1 c (omega arith) lc; third = same 2 c (omega arith) lc; fourth = same 3 c (omega arith) lc } in
    columns f g (column 0 (omega arith)) (column 1 (omega arith)) (column 2 (omega arith)) (column 3 (omega arith))

-- a state after a round, by its bytes
pub round_by_bytes : (w : List (List ℕ)) (block : List ℕ) → state_of (λ r c. byte_in (rounds w block 2) r c) ≡ rounds w block 2
unfolding rounds full_round
round_by_bytes w block = refl

-- the states of the first rounds
pub round_zero : (w : List (List ℕ)) (block : List ℕ) → add_round_key block w 0 ≡ rounds w block 0
unfolding rounds
round_zero w block = refl

pub round_one : (w : List (List ℕ)) (block : List ℕ) → full_round (rounds w block 0) w 1 ≡ rounds w block 1
unfolding rounds
round_one w block = refl

pub round_two : (w : List (List ℕ)) (block : List ℕ) → full_round (rounds w block 1) w 2 ≡ rounds w block 2
unfolding rounds
round_two w block = refl

-- a byte of a block, from the lane that has it
pub held_byte : (rows : List (List ℕ)) (b r c : ℕ) → r < 4 → c < 4 → from_tower (lane_in rows b r c) ≡ byte_in (held_in rows b) r c
held_byte rows b = below_fours (λ r c. from_tower (lane_in rows b r c) ≡ byte_in (held_in rows b) r c)
    refl refl refl refl refl refl refl refl refl refl refl refl refl refl refl refl
