-- Facts on tests of numbers, for the proofs of the crates above.
use Rattle.std.proofs.Common.{◌≡◌, ℕ, ◌<◌, ◌≤◌, Bool, true, false, refl, ap, sym, arith, true≢false}
use Rattle.std.specs.Prelude.{not, nat_lt, nat_le}
use Rattle.std.proofs.lemmas.Bool.Decides.{nat_tests}

-- ---- what an order makes of a test

pub lt_is_true : (m n : ℕ) → m < n → nat_lt m n ≡ true
lt_is_true m n low = grind (arith, nat_tests)

pub lt_is_false : (m n : ℕ) → n ≤ m → nat_lt m n ≡ false
lt_is_false m n high = grind (arith, nat_tests)

-- a number that is below isn't refused, and one that is not below is
pub below_passes : (m n : ℕ) → m < n → not (nat_lt m n) ≡ false
below_passes m n low = ap not (lt_is_true m n low)

-- ---- what a test says of an order

pub lt_of_true : (m n : ℕ) → nat_lt m n ≡ true → m < n
lt_of_true m n e = grind (arith, nat_tests)

pub ge_of_false : (m n : ℕ) → nat_lt m n ≡ false → n ≤ m
ge_of_false m n e = grind (arith, nat_tests)

pub gt_of_false : (m n : ℕ) → nat_le m n ≡ false → n < m
gt_of_false m n e = grind (arith, nat_tests)

-- ---- negations

pub true_of_not : (b : Bool) → not b ≡ false → b ≡ true
true_of_not true e = refl
true_of_not false e = absurd (true≢false e)

pub false_of_not : (b : Bool) → not b ≡ true → b ≡ false
false_of_not false e = refl
false_of_not true e = absurd (true≢false (sym e))
