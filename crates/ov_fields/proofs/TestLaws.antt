-- What the tests of numbers say.
use Rattle.std.proofs.Common.{ℕ, ◌<◌, ◌≤◌, IsTrue, arith}
use Rattle.std.proofs.lemmas.Bool.Decides.{nat_tests}
use Rattle.ov_fields.specs.Reading.{at_most, below, between}

pub le_of : (most n : ℕ) → IsTrue (at_most most n) → n ≤ most
le_of most n h = grind (arith, nat_tests)

pub of_le : (most n : ℕ) → n ≤ most → IsTrue (at_most most n)
of_le most n h = grind (arith, nat_tests)

pub lt_of : (limit n : ℕ) → IsTrue (below limit n) → n < limit
lt_of limit n h = grind (arith, nat_tests)

pub of_lt : (limit n : ℕ) → n < limit → IsTrue (below limit n)
of_lt limit n h = grind (arith, nat_tests)

pub between_of : (least most n : ℕ) → IsTrue (between least most n) → (least ≤ n) × (n ≤ most)
between_of least most n h = (grind (arith, nat_tests), grind (arith, nat_tests))

pub of_between : (least most n : ℕ) → least ≤ n → n ≤ most → IsTrue (between least most n)
of_between least most n h k = grind (arith, nat_tests)

-- a number of values, as its reader tests it
abbrev pub IsCount : ℕ → ℕ → ℕ → Type 0
IsCount limit most n = (n < limit) × IsTrue (at_most most n)

pub count_is : (limit most n : ℕ) → IsCount limit most n → n ≤ most
count_is limit most n h = le_of most n h.1

pub is_count : (limit most n : ℕ) → most < limit → n ≤ most → IsCount limit most n
is_count limit most n lt le = (omega arith, of_le most n le)
