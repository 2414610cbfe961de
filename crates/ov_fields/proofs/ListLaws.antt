-- Lists and options of fields.
use Rattle.std.proofs.Common.{◌≡◌, ℕ, zero, suc, ◌+◌, ◌*◌, ◌^◌, ◌<◌, ◌≤◌, Bool, true, false, IsTrue, List, [], ◌∷◌, ◌++◌, length, Option, Some, None, Ok, Err, refl, sym, ap, subst, ◌∙◌, append_assoc, length-append, mul-le-mul_right, arith}
use Rattle.std.specs.Prelude.{IfSome}
use Rattle.std.specs.List.{flat_map, AllByRecursion}
use Rattle.ov_fields.specs.Spelling.{optional, flag, counted, sized}
use Rattle.ov_fields.specs.Reading.{Read, ◌>>=◌, made, at_most, bytes_at, many_at, counted_at, sized_at, one_of_at, flag_at, some_at, optional_at}
use Rattle.ov_fields.proofs.ReadingLaws.{AreBytes, AreBytes-back, bind_ok, bind_err, fails_first, fails_later, done, ok_is, no_error, Reads, made_of, given_reads}
use Rattle.ov_fields.proofs.FieldLaws.{bytes_reads, wide16, wide32, that_reads}
use Rattle.ov_fields.proofs.TagLaws.{flag_reads}
use Rattle.ov_fields.proofs.TestLaws.{le_of}

-- ---- a number of values

abbrev behind : {A : Type 0} → A → List A × List ℕ → List A × List ℕ
behind a others = (a ∷ others.0, others.1)

many_takes : {A : Type 0} (r : List ℕ → Read A) (s : A → List ℕ) (F : A → Type 0) (m : ℕ) → Reads r s F m
    → (n : ℕ) (bytes : List ℕ) (x : List A × List ℕ) → AreBytes bytes → many_at r n bytes ≡ Ok x
    → (AllByRecursion F x.0 × (length x.0 ≡ n)) × (bytes ≡ flat_map s x.0 ++ x.1)
unfolding many_at
many_takes {A = A} r s F m R zero bytes x fits e =
    subst (λ (y : List A × List ℕ). (AllByRecursion F y.0 × (length y.0 ≡ 0)) × (bytes ≡ flat_map s y.0 ++ y.1)) (ok_is ([], bytes) x e) ((tt, refl), refl)
many_takes {A = A} r s F m R (suc n) bytes x fits e =
    let a = bind_ok (r bytes) (λ a. many_at r n a.1 >>= λ others. done (behind a.0 others)) x e in
    let b = bind_ok (many_at r n a.0.1) (λ others. done (behind a.0.0 others)) x a.2 in
    let one = R.takes bytes a.0 fits a.1 in
    let two = many_takes r s F m R n a.0.1 b.0 (AreBytes-back (s a.0.0) a.0.1 (subst AreBytes one.1 fits)) b.1 in
    let whole : bytes ≡ flat_map s (a.0.0 ∷ b.0.0) ++ b.0.1 =
    one.1 ∙ ap (λ (t : List ℕ). s a.0.0 ++ t) two.1 ∙ sym (append_assoc (s a.0.0) (flat_map s b.0.0) b.0.1) in
    subst (λ (y : List A × List ℕ). (AllByRecursion F y.0 × (length y.0 ≡ suc n)) × (bytes ≡ flat_map s y.0 ++ y.1)) (ok_is (behind a.0.0 b.0) x b.2)
    (((one.0, two.0.0), ap suc two.0.1), whole)

many_again : {A : Type 0} (r : List ℕ → Read A) (s : A → List ℕ) (F : A → Type 0) (m : ℕ) → Reads r s F m
    → (values : List A) (rest : List ℕ) → AllByRecursion F values → many_at r (length values) (flat_map s values ++ rest) ≡ Ok (values, rest)
unfolding many_at
many_again r s F m R [] rest fits = refl
many_again r s F m R (a ∷ values) rest fits =
    ap (many_at r (suc (length values))) (append_assoc (s a) (flat_map s values) rest)
    ∙ rw (R.again a (flat_map s values ++ rest) fits.0, many_again r s F m R values rest fits.1) refl

many_near : {A : Type 0} (r : List ℕ → Read A) (s : A → List ℕ) (F : A → Type 0) (m : ℕ) → Reads r s F m
    → (n : ℕ) (bytes : List ℕ) (left : ℕ) → AreBytes bytes → many_at r n bytes ≡ Err left → (left ≤ length bytes) × (length bytes ≤ left + n * m)
unfolding many_at
many_near r s F m R zero bytes left fits e = absurd cc
many_near r s F m R (suc n) bytes left fits e =
    elim (bind_err (r bytes) (λ a. many_at r n a.1 >>= λ others. done (behind a.0 others)) left e) [
      | fails_first bad ↦ let k = R.near bytes left fits bad in (k.0, grind (arith, k.1))
      | fails_later a was more ↦
          let one = R.takes bytes a fits was in
          let k = many_near r s F m R n a.1 left (AreBytes-back (s a.0) a.1 (subst AreBytes one.1 fits)) (no_error (many_at r n a.1) (behind a.0) left more) in
          let sum : length bytes ≡ length (s a.0) + length a.1 = ap length one.1 ∙ length-append (s a.0) a.1 in
          let few = R.short a.0 one.0 in
          (omega (arith, k.0), grind (arith, k.1))
    ]

many_short : {A : Type 0} (r : List ℕ → Read A) (s : A → List ℕ) (F : A → Type 0) (m : ℕ) → Reads r s F m
    → (values : List A) → AllByRecursion F values → length (flat_map s values) ≤ length values * m
many_short r s F m R [] fits = omega arith
many_short r s F m R (a ∷ values) fits =
    let k = many_short r s F m R values fits.1 in
    let one = R.short a fits.0 in
    let sum : length (s a ++ flat_map s values) ≡ length (s a) + length (flat_map s values) = length-append (s a) (flat_map s values) in
    grind (arith, k)

pub many_reads : {A : Type 0} {r : List ℕ → Read A} {s : A → List ℕ} {F : A → Type 0} {m : ℕ} → Reads r s F m
    → (n : ℕ) → Reads (many_at r n) (flat_map s) (λ values. AllByRecursion F values × (length values ≡ n)) (n * m)
many_reads {r = r} {s = s} {F = F} {m = m} R n = record {
  takes = many_takes r s F m R n;
  again = λ values rest fits. subst (λ (k : ℕ). many_at r k (flat_map s values ++ rest) ≡ Ok (values, rest)) fits.1 (many_again r s F m R values rest fits.0);
  near = many_near r s F m R n;
  short = λ values fits. subst (λ (k : ℕ). length (flat_map s values) ≤ k * m) fits.1 (many_short r s F m R values fits.0);
}

-- a reader with a larger bound on the bytes, one that doesn't depend on the number of values
pub Reads-more : {A : Type 0} {r : List ℕ → Read A} {s : A → List ℕ} {F : A → Type 0} {m : ℕ} → Reads r s F m → (most : ℕ) → m ≤ most → Reads r s F most
Reads-more R most le = record {
  takes = R.takes;
  again = R.again;
  near = λ bytes left fits e. let k = R.near bytes left fits e in (k.0, omega (arith, k.1));
  short = λ a fits. omega (arith, R.short a fits);
}

pub counted_reads : {A : Type 0} {r : List ℕ → Read A} {s : A → List ℕ} {F : A → Type 0} {m : ℕ} → (most : ℕ) → Reads r s F m
    → Reads (counted_at most r) (counted s) (λ values. ((length values < 2 ^ 16) × IsTrue (at_most most (length values))) × AllByRecursion F values) (2 + most * m)
unfolding counted_at
counted_reads {r = r} {s = s} {F = F} {m = m} most R =
    given_reads (many_at r) (flat_map s) (AllByRecursion F) length (most * m) (that_reads wide16 (at_most most))
    (λ n h. Reads-more (many_reads R n) (most * m) (mul-le-mul_right m (le_of most n h.1)))

-- ---- bytes behind their number

pub sized_reads : (most : ℕ)
    → Reads (sized_at most) sized (λ bytes. ((length bytes < 2 ^ 32) × IsTrue (at_most most (length bytes))) × Unit {0}) (4 + most)
unfolding sized_at
sized_reads most =
    given_reads bytes_at (λ bytes. bytes) (λ bytes. Unit {0}) length most (that_reads wide32 (at_most most))
    (λ n h. record {
      takes = λ bytes x fits e. let t = (bytes_reads n).takes bytes x fits e in ((tt, t.0), t.1);
      again = λ bytes rest fits. (bytes_reads n).again bytes rest fits.1;
      near = λ bytes left fits e. let k = (bytes_reads n).near bytes left fits e in (k.0, omega (arith, k.1, le_of most n h.1));
      short = λ bytes fits. omega (arith, fits.1, le_of most n h.1);
    })

-- ---- what follows a flag

some_takes : {A : Type 0} (r : List ℕ → Read A) (s : A → List ℕ) (F : A → Type 0) (m : ℕ) → Reads r s F m
    → (b : Bool) (bytes : List ℕ) (x : Option A × List ℕ) → AreBytes bytes → some_at b r bytes ≡ Ok x → IfSome x.0 F × (flag b ∷ bytes ≡ optional s x.0 ++ x.1)
some_takes {A = A} r s F m R true bytes x fits e =
    let a = bind_ok (r bytes) (λ a. done (made_of Some a)) x e in
    let t = R.takes bytes a.0 fits a.1 in
    subst (λ (y : Option A × List ℕ). IfSome y.0 F × (1 ∷ bytes ≡ optional s y.0 ++ y.1)) (ok_is (made_of Some a.0) x a.2) (t.0, ap (λ (l : List ℕ). 1 ∷ l) t.1)
some_takes {A = A} r s F m R false bytes x fits e =
    subst (λ (y : Option A × List ℕ). IfSome y.0 F × (0 ∷ bytes ≡ optional s y.0 ++ y.1)) (ok_is (None, bytes) x e) (tt, refl)

abbrev every_flag : List Bool
every_flag = false ∷ true ∷ []

optional_takes : {A : Type 0} (r : List ℕ → Read A) (s : A → List ℕ) (F : A → Type 0) (m : ℕ) → Reads r s F m
    → (bytes : List ℕ) (x : Option A × List ℕ) → AreBytes bytes → optional_at r bytes ≡ Ok x → IfSome x.0 F × (bytes ≡ optional s x.0 ++ x.1)
unfolding optional_at
optional_takes r s F m R bytes x fits e =
    let b = bind_ok (flag_at bytes) (λ there. some_at there.0 r there.1) x e in
    let one = (flag_reads every_flag).takes bytes b.0 fits b.1 in
    let two = some_takes r s F m R b.0.0 b.0.1 x (AreBytes-back (flag b.0.0 ∷ []) b.0.1 (subst AreBytes one.1 fits)) b.2 in
    (two.0, one.1 ∙ two.1)

optional_again : {A : Type 0} (r : List ℕ → Read A) (s : A → List ℕ) (F : A → Type 0) (m : ℕ) → Reads r s F m
    → (value : Option A) (rest : List ℕ) → IfSome value F → optional_at r (optional s value ++ rest) ≡ Ok (value, rest)
unfolding optional_at one_of_at
optional_again r s F m R None rest fits = refl
optional_again r s F m R (Some a) rest fits = ap (made Some) (R.again a rest fits)

some_near : {A : Type 0} (r : List ℕ → Read A) (s : A → List ℕ) (F : A → Type 0) (m : ℕ) → Reads r s F m
    → (b : Bool) (bytes : List ℕ) (left : ℕ) → AreBytes bytes → some_at b r bytes ≡ Err left → (left ≤ length bytes) × (length bytes ≤ left + m)
some_near r s F m R true bytes left fits e = R.near bytes left fits (no_error (r bytes) (made_of Some) left e)
some_near r s F m R false bytes left fits e = absurd cc

optional_near : {A : Type 0} (r : List ℕ → Read A) (s : A → List ℕ) (F : A → Type 0) (m : ℕ) → Reads r s F m
    → (bytes : List ℕ) (left : ℕ) → AreBytes bytes → optional_at r bytes ≡ Err left → (left ≤ length bytes) × (length bytes ≤ left + (1 + m))
unfolding optional_at
optional_near r s F m R bytes left fits e =
    elim (bind_err (flag_at bytes) (λ there. some_at there.0 r there.1) left e) [
      | fails_first bad ↦ let k = (flag_reads every_flag).near bytes left fits bad in (k.0, omega (arith, k.1))
      | fails_later b was more ↦
          let one = (flag_reads every_flag).takes bytes b fits was in
          let k = some_near r s F m R b.0 b.1 left (AreBytes-back (flag b.0 ∷ []) b.1 (subst AreBytes one.1 fits)) more in
          let sum : length bytes ≡ suc (length b.1) = ap length one.1 in
          (omega (arith, k.0), omega (arith, k.1))
    ]

optional_short : {A : Type 0} (r : List ℕ → Read A) (s : A → List ℕ) (F : A → Type 0) (m : ℕ) → Reads r s F m
    → (value : Option A) → IfSome value F → length (optional s value) ≤ 1 + m
optional_short r s F m R None fits = omega arith
optional_short r s F m R (Some a) fits = omega (arith, R.short a fits)

pub optional_reads : {A : Type 0} {r : List ℕ → Read A} {s : A → List ℕ} {F : A → Type 0} {m : ℕ} → Reads r s F m
    → Reads (optional_at r) (optional s) (λ value. IfSome value F) (1 + m)
optional_reads {r = r} {s = s} {F = F} {m = m} R = record {
  takes = optional_takes r s F m R;
  again = optional_again r s F m R;
  near = optional_near r s F m R;
  short = optional_short r s F m R;
}
