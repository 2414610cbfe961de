-- The finite field GF(2^8) (FIPS 197, section 4). An element is a byte, a number below 256, whose
-- bit i is the coefficient of x^i.
use Rattle.std.specs.Prelude.{ℕ, zero, suc, ◌-◌, ◌*◌, ◌/◌, ◌%◌, ◌==◌, if◌then◌else◌, bit_xor}

-- 4.1: the sum of two elements
abbrev pub add : ℕ → ℕ → ℕ
add b c = bit_xor b c

-- 4.2: XTIMES, the product with x modulo m(x) = x^8 + x^4 + x^3 + x + 1
abbrev pub xtimes : ℕ → ℕ
xtimes b = (if b / 128 == 0 then b * 2 else add (b * 2 - 256) 0x1b)

-- 4.2: the sum of b x^i over those of the lowest n coefficients of c that are 1
abbrev pub times_lowest : ℕ → ℕ → ℕ → ℕ
times_lowest zero b c = 0
times_lowest (suc n) b c = add (c % 2 * b) (times_lowest n (xtimes b) (c / 2))

-- 4.2: the product of two elements modulo m(x)
abbrev pub times : ℕ → ℕ → ℕ
times b c = times_lowest 8 b c

-- 4.2: x^n
abbrev pub power_of_x : ℕ → ℕ
power_of_x zero = 1
power_of_x (suc n) = xtimes (power_of_x n)

-- 4.4: the element below n whose product with b is 1, or 0 where there is none
abbrev pub inverse_below : ℕ → ℕ → ℕ
inverse_below zero b = 0
inverse_below (suc n) b = (if times b n == 1 then n else inverse_below n b)

-- 4.4: the multiplicative inverse of an element, and 0 for 0
abbrev pub inverse : ℕ → ℕ
inverse b = inverse_below 256 b
