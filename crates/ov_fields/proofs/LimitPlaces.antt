-- Wrong places of numbers that have limits.
use Rattle.std.proofs.Common.{◌≡◌, ℕ, ◌-◌, ◌*◌, ◌^◌, ◌<◌, ◌≤◌, inl, inr, Bool, true, false, cond, ltb, IsTrue, List, [], ◌++◌, length, Ok, Err, refl, sym, ap, subst, ◌∙◌, arith}
use Rattle.std.specs.Int.{Width, w16, w32, byte_len, to_be_bytes}
use Rattle.std.proofs.lemmas.Bool.{ltb-true, ltb-false}
use Rattle.std.proofs.lemmas.List.{append-nil}
use Rattle.ov_fields.specs.Spelling.{u16, u32}
use Rattle.ov_fields.specs.Fronts.{IsFront, IsOutside}
use Rattle.ov_fields.specs.Reading.{Read, ◌>>=◌, number_at, number_that, at_most, below, between}
use Rattle.ov_fields.proofs.ReadingLaws.{AreBytes, bind_err, fails_first, fails_later}
use Rattle.ov_fields.proofs.FieldLaws.{IsWide, wide16, wide32, test_err, number_reads}
use Rattle.ov_fields.proofs.TestLaws.{le_of, of_le, lt_of, of_lt, between_of, of_between}
use Rattle.ov_fields.proofs.PlaceLaws.{AreBytes-nil, Takes, OutsideLimits, Stops, at_u16, at_u32, Fault, HasPlaces, none_before, fault_here, fault_in_number}
use Rattle.ov_fields.proofs.FieldPlaces.{test_not, test_no, few_number, u16-bytes, u32-bytes}

-- a test that just the numbers from one to another pass
pub record IsLimits (test : ℕ → Bool) (least most limit : ℕ) : Type 0 where
  pub some : least ≤ most
  pub fits : most < limit
  pub within : (n : ℕ) → least ≤ n → n ≤ most → IsTrue (test n)
  pub passed : (n : ℕ) → IsTrue (test n) → (least ≤ n) × (n ≤ most)

outside_by : (low high : Bool) (least most n : ℕ) → ltb n least ≡ low → ltb most n ≡ high → (least ≤ n → n ≤ most → ⊥) → IsOutside least most n
outside_by true high least most n is is' out = inl (ltb-true _ _ is)
outside_by false true least most n is is' out = inr (ltb-true _ _ is')
outside_by false false least most n is is' out = absurd (out (ltb-false _ _ is) (ltb-false _ _ is'))

not_passed : (b : Bool) → b ≡ false → IsTrue b → ⊥
not_passed true is h = absurd cc
not_passed false is h = absurd cc

failed : (b : Bool) → (IsTrue b → ⊥) → b ≡ false
failed true out = absurd (out refl)
failed false out = refl

inside_not : (least most n : ℕ) → IsOutside least most n → least ≤ n → n ≤ most → ⊥
inside_not least most n (inl lt) low high = omega arith
inside_not least most n (inr lt) low high = omega arith

that_no : {w : Width} {limit : ℕ} → IsWide w limit → (test : ℕ → Bool) (n : ℕ) → n < limit → test n ≡ false → (more : List ℕ) → Takes (number_that w test) (to_be_bytes w n ++ more) → ⊥
unfolding number_that
that_no {w = w} wide test n lt is more ok =
    let bytes = to_be_bytes w n ++ more in
    let e = ap (λ (r : Read ℕ). r >>= λ k. cond (test k.0) (Ok k) (Err (length bytes))) (sym ((number_reads wide).again n more lt)) ∙ ok.1 in
    test_no (test n) (length bytes) (n, more) ok.0 is e

-- which numbers of this width pass
abbrev Passes : ℕ → (ℕ → Bool) → ℕ → Type 0
Passes limit test n = (n < limit) × IsTrue (test n)

front_that : (w : Width) {limit : ℕ} (test : ℕ → Bool) (least most n : ℕ) → IsLimits test least most limit → ((k : ℕ) → AreBytes (to_be_bytes w k)) → least ≤ n → n ≤ most
    → IsFront (to_be_bytes w) (Passes limit test) (to_be_bytes w n)
front_that w test least most n limits bytes low high = record {
  value = n;
  more = [];
  form = (omega (arith, limits.fits), limits.within n low high);
  spelled = sym (append-nil (to_be_bytes w n));
  bytes = AreBytes-nil.each;
}

that_fault : {Once Limited : Type 0} {w : Width} (wide : IsWide w (2 ^ (8 * byte_len w))) (test : ℕ → Bool) (least most : ℕ) → IsLimits test least most (2 ^ (8 * byte_len w)) → Limited → byte_len w ≤ 4
    → ((k : ℕ) → AreBytes (to_be_bytes w k))
    → ((bytes : List ℕ) → OutsideLimits (Takes (number_that w test)) (to_be_bytes w) (Passes (2 ^ (8 * byte_len w)) test) [] bytes w → Stops Once Limited (Takes (number_that w test)) (to_be_bytes w) (Passes (2 ^ (8 * byte_len w)) test) [] bytes)
    → (bytes : List ℕ) (left : ℕ) → AreBytes bytes → number_that w test bytes ≡ Err left → Fault Once Limited (Takes (number_that w test)) (to_be_bytes w) (Passes (2 ^ (8 * byte_len w)) test) bytes left
unfolding number_that
that_fault {Once = Once} {Limited = Limited} {w = w} wide test least most limits limited four to_bytes shown bytes left fits e =
    let none : IsFront (to_be_bytes w) (Passes (2 ^ (8 * byte_len w)) test) [] = none_before least (omega (arith, limits.some, limits.fits), limits.within least (omega arith) limits.some) (to_bytes least) in
    elim (bind_err (number_at w bytes) (λ n. cond (test n.0) (Ok n) (Err (length bytes))) left e) [
      | fails_first bad ↦
          let few = few_number w bytes left bad in
          subst (Fault Once Limited (Takes (number_that w test)) (to_be_bytes w) (Passes (2 ^ (8 * byte_len w)) test) bytes) few.1
          (fault_in_number bytes limited none (omega (arith, few.0)))
      | fails_later a was more ↦
          let one = (number_reads wide).takes bytes a fits was in
          let is : length bytes ≡ left = test_err (test a.0) (length bytes) left a more in
          let not : test a.0 ≡ false = test_not (test a.0) (length bytes) left a more in
          let outside = outside_by (ltb a.0 least) (ltb most a.0) least most a.0 refl refl (λ low high. not_passed (test a.0) not (limits.within a.0 low high)) in
          subst (Fault Once Limited (Takes (number_that w test)) (to_be_bytes w) (Passes (2 ^ (8 * byte_len w)) test) bytes) is
          (fault_here bytes none (shown bytes (record {
            n = a.0;
            least = least;
            most = most;
            after = a.1;
            parts = one.1;
            fits = one.0;
            outside = outside;
            within = λ k low high. front_that w test least most k limits to_bytes low high;
            others = λ k lt out more. that_no wide test k lt (failed (test k) (λ h. let p = limits.passed k h in inside_not least most k out p.0 p.1)) more;
          })))
    ]

-- a number of two bytes that passes a test
pub u16_places : {Once Limited : Type 0} (test : ℕ → Bool) (least most : ℕ) → Limited → IsLimits test least most (2 ^ 16) → HasPlaces Once Limited (number_that w16 test) u16 (λ n. (n < 2 ^ 16) × IsTrue (test n))
u16_places test least most limited limits = record {
  value = least;
  form = (omega (arith, limits.some, limits.fits), limits.within least (omega arith) limits.some);
  bytes = u16-bytes least;
  fault = that_fault wide16 test least most limits limited (omega arith) u16-bytes (λ bytes o. at_u16 limited o);
}

-- a number of four bytes that passes a test
pub u32_places : {Once Limited : Type 0} (test : ℕ → Bool) (least most : ℕ) → Limited → IsLimits test least most (2 ^ 32) → HasPlaces Once Limited (number_that w32 test) u32 (λ n. (n < 2 ^ 32) × IsTrue (test n))
u32_places test least most limited limits = record {
  value = least;
  form = (omega (arith, limits.some, limits.fits), limits.within least (omega arith) limits.some);
  bytes = u32-bytes least;
  fault = that_fault wide32 test least most limits limited (omega arith) u32-bytes (λ bytes o. at_u32 limited o);
}

pub at_most_limits : (most limit : ℕ) → most < limit → IsLimits (at_most most) 0 most limit
at_most_limits most limit fits = record { some = omega arith; fits = fits; within = λ n low high. of_le most n high; passed = λ n h. (omega arith, le_of most n h) }

pub between_limits : (least most limit : ℕ) → least ≤ most → most < limit → IsLimits (between least most) least most limit
between_limits least most limit some fits = record { some = some; fits = fits; within = λ n low high. of_between least most n low high; passed = λ n h. between_of least most n h }

pub below_limits : (end limit : ℕ) → 1 ≤ end → end ≤ limit → IsLimits (below end) 0 (end - 1) limit
below_limits end limit some fits = record {
  some = omega arith;
  fits = omega (arith, some, fits);
  within = λ n low high. of_lt end n (omega (arith, high, some));
  passed = λ n h. let lt = lt_of end n h in (omega arith, omega (arith, lt));
}
