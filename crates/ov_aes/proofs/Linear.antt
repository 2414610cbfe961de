-- The change of basis is linear, and the S-box in the basis over the field of 16 is the standard's, by all bytes.
use Rattle.std.proofs.Common.{◌≡◌, ℕ, ◌<◌, map, refl, bit_xor, ap, ◌∙◌, sym, get_or, true, ltb, ltb-true}
use Rattle.std.specs.List.{range_with_len}
use Rattle.std.specs.Int.Bits.{xor_zero_r}
use Rattle.std.proofs.lemmas.Nat.{xor_comm, xor_lt}
use lib.Bits.{xor_assoc}
use Rattle.ov_aes.specs.declared.sbox.TheConstants.{SBOX}
use Rattle.ov_aes.specs.Cipher.{sbox}
use Rattle.ov_aes.specs.Field.{times}
use Rattle.ov_aes.specs.Tower.{from_tower, into_tower, one_of, out_of_tower, sum5, two_of}
use Rattle.ov_aes.proofs.Tables.{at_each, at_byte, sbox_entry}

pairs : map (λ a. map (λ b. from_tower (bit_xor a b)) (range_with_len 0 256)) (range_with_len 0 256)
    ≡ map (λ a. map (λ b. bit_xor (from_tower a) (from_tower b)) (range_with_len 0 256)) (range_with_len 0 256)
pairs = refl

pub from_tower-xor : (a b : ℕ) → a < 256 → b < 256 → from_tower (bit_xor a b) ≡ bit_xor (from_tower a) (from_tower b)
from_tower-xor a b la lb =
    at_byte (λ y. from_tower (bit_xor a y)) (λ y. bit_xor (from_tower a) (from_tower y))
    (at_each 256 (λ x. map (λ y. from_tower (bit_xor x y)) (range_with_len 0 256)) (λ x. map (λ y. bit_xor (from_tower x) (from_tower y)) (range_with_len 0 256)) pairs a la) b lb

-- a number below 256, for each byte
below : (f : ℕ → ℕ) → map (λ y. ltb (f y) 256) (range_with_len 0 256) ≡ map (λ y. true) (range_with_len 0 256) → (y : ℕ) → y < 256 → f y < 256
below f e y lt = ltb-true _ _ (at_each 256 (λ x. ltb (f x) 256) (λ x. true) e y lt)

pub from_tower-lt : (y : ℕ) → y < 256 → from_tower y < 256
from_tower-lt = below from_tower refl

pub into_tower-lt : (x : ℕ) → x < 256 → into_tower x < 256
into_tower-lt = below into_tower refl

pub from_into : (x : ℕ) → x < 256 → from_tower (into_tower x) ≡ x
from_into = at_byte (λ x. from_tower (into_tower x)) (λ x. x) refl

-- the S-box's byte at the byte that y stands for
abbrev pub sbox_at : ℕ → ℕ
sbox_at y = sbox (from_tower y)

pub by_sbox : (f g : ℕ → ℕ) → map f (range_with_len 0 256) ≡ map (λ y. g (get_or SBOX (from_tower y) 0)) (range_with_len 0 256) → (y : ℕ) → y < 256 → f y ≡ g (sbox_at y)
by_sbox f g e y lt = at_byte f (λ x. g (get_or SBOX (from_tower x) 0)) e y lt ∙ ap g (sbox_entry (from_tower y) (from_tower-lt y lt))

pub once : (y : ℕ) → y < 256 → from_tower (one_of y) ≡ bit_xor (sbox_at y) 0x63
once = by_sbox (λ y. from_tower (one_of y)) (λ s. bit_xor s 0x63) refl

pub twice : (y : ℕ) → y < 256 → from_tower (two_of y) ≡ bit_xor (times 2 (sbox_at y)) 0xc6
twice = by_sbox (λ y. from_tower (two_of y)) (λ s. bit_xor (times 2 s) 0xc6) refl

pub thrice : (y : ℕ) → y < 256 → from_tower (bit_xor (one_of y) (two_of y)) ≡ bit_xor (times 3 (sbox_at y)) 0xa5
thrice = by_sbox (λ y. from_tower (bit_xor (one_of y) (two_of y))) (λ s. bit_xor (times 3 s) 0xa5) refl

pub left : (y : ℕ) → y < 256 → out_of_tower y ≡ bit_xor (sbox_at y) 0x63
left = by_sbox out_of_tower (λ s. bit_xor s 0x63) refl

-- ---- sums of five, and of the constants in them

pub xor_swap : (a c b d : ℕ) → bit_xor (bit_xor a c) (bit_xor b d) ≡ bit_xor (bit_xor a b) (bit_xor c d)
xor_swap a c b d =
    xor_assoc a c (bit_xor b d)
    ∙ ap (bit_xor a) (sym (xor_assoc c b d) ∙ ap (λ t. bit_xor t d) (xor_comm c b) ∙ xor_assoc b c d)
    ∙ sym (xor_assoc a b (bit_xor c d))

-- constants that add up to zero go
pub sum5-constants : (a b c d e k l m n o : ℕ) → sum5 k l m n o ≡ 0
    → sum5 (bit_xor a k) (bit_xor b l) (bit_xor c m) (bit_xor d n) (bit_xor e o) ≡ sum5 a b c d e
sum5-constants a b c d e k l m n o zero =
    ap (λ t. bit_xor (bit_xor (bit_xor t (bit_xor c m)) (bit_xor d n)) (bit_xor e o)) (xor_swap a k b l)
    ∙ ap (λ t. bit_xor (bit_xor t (bit_xor d n)) (bit_xor e o)) (xor_swap (bit_xor a b) (bit_xor k l) c m)
    ∙ ap (λ t. bit_xor t (bit_xor e o)) (xor_swap (bit_xor (bit_xor a b) c) (bit_xor (bit_xor k l) m) d n)
    ∙ xor_swap (bit_xor (bit_xor (bit_xor a b) c) d) (bit_xor (bit_xor (bit_xor k l) m) n) e o
    ∙ ap (bit_xor (sum5 a b c d e)) zero ∙ xor_zero_r (sum5 a b c d e)

pub from_tower-sum5 : (a b c d e : ℕ) → a < 256 → b < 256 → c < 256 → d < 256 → e < 256
    → from_tower (sum5 a b c d e) ≡ sum5 (from_tower a) (from_tower b) (from_tower c) (from_tower d) (from_tower e)
from_tower-sum5 a b c d e la lb lc ld le =
    let ab = xor_lt 8 a b la lb in
    let abc = xor_lt 8 (bit_xor a b) c ab lc in
    let abcd = xor_lt 8 (bit_xor (bit_xor a b) c) d abc ld in
    from_tower-xor (bit_xor (bit_xor (bit_xor a b) c) d) e abcd le
    ∙ ap (λ t. bit_xor t (from_tower e)) (from_tower-xor (bit_xor (bit_xor a b) c) d abc ld
    ∙ ap (λ t. bit_xor t (from_tower d)) (from_tower-xor (bit_xor a b) c ab lc
    ∙ ap (λ t. bit_xor t (from_tower c)) (from_tower-xor a b la lb)))
