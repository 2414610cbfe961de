-- Sets as bytes.
use Rattle.std.proofs.Common.{ℕ, suc, zero, ◌≡◌, ◌<◌, ◌+◌, ◌-◌, ◌*◌, ◌/◌, ◌%◌, ◌^◌, List, [], ◌∷◌, ◌++◌, length, get_or, refl, sym, ◌∙◌, ap, arith, inl, inr}
use Rattle.std.specs.Int.{bit_at}
use Rattle.std.proofs.lemmas.Bool.{cases_lt}
use Rattle.std.proofs.lemmas.Nat.Bits.{bit_at_cat_low, bit_at_cat_high}
use Rattle.std.proofs.Math.Nat.{pow-suc}
use Rattle.ov_base.specs.Sets.{bytes_of, set_of_bytes}

pub length-bytes_of : (count set : ℕ) → length (bytes_of count set) ≡ count
unfolding bytes_of
length-bytes_of zero set = refl
length-bytes_of (suc count) set = ap suc (length-bytes_of count (set / 256))

-- the bytes of a set that fits them are the set again
pub set_of_bytes-bytes_of : (count set : ℕ) → set < 256 ^ count → set_of_bytes (bytes_of count set) ≡ set
unfolding bytes_of set_of_bytes
set_of_bytes-bytes_of zero set h = omega arith
set_of_bytes-bytes_of (suc count) set h =
    let p = pow-suc 256 count in
    let less : set / 256 < 256 ^ count = omega arith in
    let e = set_of_bytes-bytes_of count (set / 256) less in
    omega arith

-- the set of some bytes has them as its bytes again
pub bytes_of-set_of_bytes : (bytes : List ℕ) (count : ℕ) → length bytes ≡ count → ((i : ℕ) → get_or bytes i 0 < 256) → bytes_of count (set_of_bytes bytes) ≡ bytes
unfolding bytes_of set_of_bytes
bytes_of-set_of_bytes [] zero e fit = refl
bytes_of-set_of_bytes [] (suc count) e fit = absurd (omega arith)
bytes_of-set_of_bytes (b ∷ bytes) zero e fit = absurd (omega arith)
bytes_of-set_of_bytes (b ∷ bytes) (suc count) e fit =
    let small : b < 256 = fit 0 in
    let low : (set_of_bytes bytes * 256 + b) % 256 ≡ b = omega arith in
    let high : (set_of_bytes bytes * 256 + b) / 256 ≡ set_of_bytes bytes = omega arith in
    rw (low, high, bytes_of-set_of_bytes bytes count (omega arith) (λ i. fit (suc i))) refl

-- the bytes of two parts of a set
pub bytes_of-two : (few many low high : ℕ) → low < 256 ^ few → bytes_of (few + many) (high * 256 ^ few + low) ≡ bytes_of few low ++ bytes_of many high
unfolding bytes_of
bytes_of-two zero many low high h =
    let count : zero + many ≡ many = omega arith in
    let set : high * 256 ^ zero + low ≡ high = omega arith in
    rw (count, set) refl
bytes_of-two (suc few) many low high h =
    let p : high * 256 ^ suc few ≡ high * (256 ^ few * 256) = ap (λ x. high * x) (pow-suc 256 few) in
    let q = pow-suc 256 few in
    let count : suc few + many ≡ suc (few + many) = omega arith in
    let byte : (high * 256 ^ suc few + low) % 256 ≡ low % 256 = omega arith in
    let rest : (high * 256 ^ suc few + low) / 256 ≡ high * 256 ^ few + low / 256 = omega arith in
    rw (count, byte, rest, bytes_of-two few many (low / 256) high (omega arith)) refl

-- the set of two lists of bytes
pub set_of_bytes-append : (low high : List ℕ) → set_of_bytes (low ++ high) ≡ set_of_bytes high * 256 ^ length low + set_of_bytes low
unfolding set_of_bytes
set_of_bytes-append [] high = omega arith
set_of_bytes-append (b ∷ low) high =
    let p : set_of_bytes high * 256 ^ length (b ∷ low) ≡ set_of_bytes high * (256 ^ length low * 256) =
    ap (λ x. set_of_bytes high * x) (pow-suc 256 (length low)) in
    let e = set_of_bytes-append low high in
    omega arith
