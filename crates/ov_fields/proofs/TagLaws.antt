-- Values that a tag byte tells, nothing, and bytes as they are.
use Rattle.std.proofs.Common.{◌≡◌, ℕ, ◌+◌, ◌-◌, ◌≤◌, Bool, true, false, cond, eqb, List, [], ◌∷◌, ◌++◌, length, take, drop, Option, Some, None, Ok, Err, ◌⊎◌, inl, inr, refl, sym, ap, subst, ◌∙◌, length-append, eq-eqb, arith}
use Rattle.std.proofs.lemmas.Bool.{eqb-true}
use Rattle.std.proofs.lemmas.List.{take_at, drop_at}
use Rattle.ov_fields.specs.Spelling.{u8, flag, IsOneOf}
use Rattle.ov_fields.specs.Reading.{Read, ◌>>=◌, spanned, rest_of, tagged_by, one_of_at, ok_or_left, nothing_at}
use Rattle.ov_fields.proofs.ReadingLaws.{AreBytes, bind_ok, done, ok_is, no_error, Reads}

-- ---- tags

tagged_or_next : {A : Type 0} (b : Bool) (tag : A → ℕ) (value : A) (byte : ℕ) (next : Option A) (a : A) → eqb (tag value) byte ≡ b
    → (next ≡ Some a → tag a ≡ byte) → cond b (Some value) next ≡ Some a → tag a ≡ byte
tagged_or_next true tag value byte next a is later e = let same : value ≡ a = cc in ap tag (sym same) ∙ eqb-true _ _ is
tagged_or_next false tag value byte next a is later e = later e

tagged_has : {A : Type 0} (tag : A → ℕ) (values : List A) (byte : ℕ) (a : A) → tagged_by tag values byte ≡ Some a → tag a ≡ byte
tagged_has tag [] byte a e = absurd cc
tagged_has tag (value ∷ values) byte a e =
    tagged_or_next (eqb (tag value) byte) tag value byte (tagged_by tag values byte) a refl (tagged_has tag values byte a) e

ok_of : {A : Type 0} (o : Option A) (bytes : List ℕ) (left : ℕ) (x : A × List ℕ) → ok_or_left o bytes left ≡ Ok x → (o ≡ Some x.0) × (bytes ≡ x.1)
ok_of {A = A} (Some value) bytes left x e =
    let same = ok_is (value, bytes) x e in (ap (λ (p : A × List ℕ). Some p.0) same, ap (λ (p : A × List ℕ). p.1) same)
ok_of None bytes left x e = absurd cc

err_of : {A : Type 0} (o : Option A) (bytes : List ℕ) (n left : ℕ) → ok_or_left o bytes n ≡ Err left → n ≡ left
err_of (Some value) bytes n left e = absurd cc
err_of None bytes n left e = cc

one_takes : {A : Type 0} (tag : A → ℕ) (values : List A) (bytes : List ℕ) (x : A × List ℕ) → one_of_at tag values bytes ≡ Ok x
    → (tagged_by tag values (tag x.0) ≡ Some x.0) × (bytes ≡ tag x.0 ∷ x.1)
unfolding one_of_at
one_takes tag values [] x e = absurd cc
one_takes {A = A} tag values (byte ∷ bytes) x e =
    let t = ok_of (tagged_by tag values byte) bytes (length (byte ∷ bytes)) x e in
    let is : tag x.0 ≡ byte = tagged_has tag values byte x.0 t.0 in
    (ap (tagged_by tag values) is ∙ t.0, ap (λ (b : ℕ). b ∷ bytes) (sym is) ∙ ap (λ (l : List ℕ). tag x.0 ∷ l) t.1)

one_again : {A : Type 0} (tag : A → ℕ) (values : List A) (a : A) (rest : List ℕ) → tagged_by tag values (tag a) ≡ Some a → one_of_at tag values (tag a ∷ rest) ≡ Ok (a, rest)
unfolding one_of_at
one_again tag values a rest told = ap (λ o. ok_or_left o rest (length (tag a ∷ rest))) told

one_near : {A : Type 0} (tag : A → ℕ) (values : List A) (bytes : List ℕ) (left : ℕ) → one_of_at tag values bytes ≡ Err left → (left ≤ length bytes) × (length bytes ≤ left + 1)
unfolding one_of_at
one_near tag values [] left e = let is : 0 ≡ left = cc in (omega arith, omega arith)
one_near tag values (byte ∷ bytes) left e =
    let is : length (byte ∷ bytes) ≡ left = err_of (tagged_by tag values byte) bytes (length (byte ∷ bytes)) left e in (omega arith, omega arith)

own : {A : Type 0} (b : Bool) (a : A) (next : Option A) → b ≡ true → cond b (Some a) next ≡ Some a
own true a next is = refl
own false a next is = absurd cc

found : {A : Type 0} (b : Bool) (value a : A) (next : Option A) → (b ≡ true → value ≡ a) → next ≡ Some a → cond b (Some value) next ≡ Some a
found true value a next same later = ap Some (same refl)
found false value a next same later = later

one_or_next : {A : Type 0} (b : Bool) (value a : A) (next : Option A) (values : List A) → (next ≡ Some a → IsOneOf a values) → cond b (Some value) next ≡ Some a
    → (a ≡ value) ⊎ IsOneOf a values
one_or_next true value a next values later e = inl cc
one_or_next false value a next values later e = inr (later e)

-- one of the values is told by its tag
told : {A : Type 0} (tag : A → ℕ) → ((a b : A) → tag a ≡ tag b → a ≡ b) → (values : List A) (a : A) → IsOneOf a values → tagged_by tag values (tag a) ≡ Some a
told tag same [] a is = absurd is
told tag same (value ∷ values) a (inl is) = rw (sym is) (own (eqb (tag a) (tag a)) a (tagged_by tag values (tag a)) (eq-eqb (tag a) (tag a) refl))
told tag same (value ∷ values) a (inr is) =
    found (eqb (tag value) (tag a)) value a (tagged_by tag values (tag a)) (λ b. same value a (eqb-true _ _ b)) (told tag same values a is)

-- what a tag tells is one of the values
one_of : {A : Type 0} (tag : A → ℕ) (values : List A) (byte : ℕ) (a : A) → tagged_by tag values byte ≡ Some a → IsOneOf a values
one_of tag [] byte a e = absurd cc
one_of tag (value ∷ values) byte a e = one_or_next (eqb (tag value) byte) value a (tagged_by tag values byte) values (one_of tag values byte a) e

pub one_of_reads : {A : Type 0} (tag : A → ℕ) (values : List A) → ((a b : A) → tag a ≡ tag b → a ≡ b) → Reads (one_of_at tag values) (λ a. tag a ∷ []) (λ a. IsOneOf a values) 1
one_of_reads tag values same = record {
  takes = λ bytes x fits e. let t = one_takes tag values bytes x e in (one_of tag values (tag x.0) x.0 t.0, t.1);
  again = λ a rest is. one_again tag values a rest (told tag same values a is);
  near = λ bytes left fits e. one_near tag values bytes left e;
  short = λ a is. omega arith;
}

-- ---- flags

flag_back : ℕ → Bool
flag_back n = eqb n 1

back-flag : (b : Bool) → flag_back (flag b) ≡ b
unfolding flag_back
back-flag true = refl
back-flag false = refl

pub flag_reads : (values : List Bool) → Reads (one_of_at flag values) (λ b. u8 (flag b)) (λ b. IsOneOf b values) 1
flag_reads values = one_of_reads flag values (λ a b e. sym (back-flag a) ∙ ap flag_back e ∙ back-flag b)

pub each_flag : (b : Bool) → IsOneOf b (false ∷ true ∷ [])
each_flag false = inl refl
each_flag true = inr (inl refl)

-- ---- nothing

pub nothing_reads : Reads nothing_at (λ n. []) (λ n. Unit {0}) 0
nothing_reads = record {
  takes = λ bytes x fits e. (tt, ap (λ (p : Unit {0} × List ℕ). p.1) (ok_is (tt, bytes) x e));
  again = λ n rest fits. refl;
  near = λ bytes left fits e. absurd cc;
  short = λ n fits. omega arith;
}

-- ---- bytes as they are

spanned_takes : {A : Type 0} (r : List ℕ → Read A) (s : A → List ℕ) (F : A → Type 0) (m : ℕ) → Reads r s F m
    → (bytes : List ℕ) (x : List ℕ × List ℕ) → AreBytes bytes → spanned r bytes ≡ Ok x → ((a : A) × F a × (x.0 ≡ s a)) × (bytes ≡ x.0 ++ x.1)
spanned_takes {A = A} r s F m R bytes x fits e =
    let a = bind_ok (r bytes) (λ a. done (take (length bytes - length a.1) bytes, a.1)) x e in
    let t = R.takes bytes a.0 fits a.1 in
    let n : length bytes - length a.0.1 ≡ length (s a.0.0) = omega (arith, ap length t.1, length-append (s a.0.0) a.0.1) in
    let front : take (length bytes - length a.0.1) bytes ≡ s a.0.0 =
    ap (λ (l : List ℕ). take (length bytes - length a.0.1) l) t.1 ∙ take_at (s a.0.0) a.0.1 (length bytes - length a.0.1) (sym n) in
    subst (λ (y : List ℕ × List ℕ). ((a : A) × F a × (y.0 ≡ s a)) × (bytes ≡ y.0 ++ y.1)) (ok_is (take (length bytes - length a.0.1) bytes, a.0.1) x a.2)
    ((a.0.0, t.0, front), t.1 ∙ ap (λ (l : List ℕ). l ++ a.0.1) (sym front))

spanned_again : {A : Type 0} (r : List ℕ → Read A) (s : A → List ℕ) (F : A → Type 0) (m : ℕ) → Reads r s F m
    → (a : A) (rest : List ℕ) → F a → spanned r (s a ++ rest) ≡ Ok (s a, rest)
spanned_again r s F m R a rest fits =
    let n : length (s a) ≡ length (s a ++ rest) - length rest = omega (arith, length-append (s a) rest) in
    rw (R.again a rest fits) (ap (λ (l : List ℕ). done (l, rest)) (take_at (s a) rest (length (s a ++ rest) - length rest) n))

pub spanned_reads : {A : Type 0} {r : List ℕ → Read A} {s : A → List ℕ} {F : A → Type 0} {m : ℕ} (Form : List ℕ → Type 0)
    → ((a : A) → F a → Form (s a)) → ((text : List ℕ) → Form text → (a : A) × F a × (text ≡ s a))
    → Reads r s F m → Reads (spanned r) (λ text. text) Form m
spanned_reads {r = r} {s = s} {F = F} {m = m} Form form back R = record {
  takes = λ bytes x fits e.
      let t = spanned_takes r s F m R bytes x fits e in (subst Form (sym t.0.2) (form t.0.0 t.0.1), t.1);
  again = λ text rest fits.
      let b = back text fits in
      subst (λ (l : List ℕ). spanned r (l ++ rest) ≡ Ok (l, rest)) (sym b.2) (spanned_again r s F m R b.0 rest b.1);
  near = λ bytes left fits e. R.near bytes left fits (no_error (r bytes) (λ a. (take (length bytes - length a.1) bytes, a.1)) left e);
  short = λ text fits. let b = back text fits in omega (arith, R.short b.0 b.1, ap length b.2);
}

-- what is known where the bytes after a value were found
pub record SpanFound {A : Type 0} (r : List ℕ → Read A) (bytes rest : List ℕ) : Type 0 where
  pub room : length rest ≤ length bytes
  pub read : spanned r bytes ≡ Ok (take (length bytes - length rest) bytes, drop (length bytes - length rest) bytes)

pub span_found : {A : Type 0} {r : List ℕ → Read A} {s : A → List ℕ} {F : A → Type 0} {m : ℕ} → Reads r s F m
    → (bytes rest : List ℕ) → AreBytes bytes → rest_of (r bytes) ≡ Ok rest → SpanFound r bytes rest
span_found {A = A} {r = r} {s = s} R bytes rest fits e =
    let a = bind_ok (r bytes) (λ a. done a.1) rest e in
    let is : a.0.1 ≡ rest = ok_is a.0.1 rest a.2 in
    let t = R.takes bytes a.0 fits a.1 in
    let sum : length bytes ≡ length (s a.0.0) + length rest = ap length t.1 ∙ length-append (s a.0.0) a.0.1 ∙ ap (λ (l : List ℕ). length (s a.0.0) + length l) is in
    let n : length (s a.0.0) ≡ length bytes - length rest = omega (arith, sum) in
    let back : drop (length bytes - length rest) bytes ≡ rest =
    ap (λ (l : List ℕ). drop (length bytes - length rest) l) t.1 ∙ drop_at (s a.0.0) a.0.1 (length bytes - length rest) n ∙ is in
    record {
      room = omega (arith, sum);
      read = ap (λ (x : Read A). x >>= λ a. done (take (length bytes - length a.1) bytes, a.1)) a.1
          ∙ ap (λ (l : List ℕ). done (take (length bytes - length l) bytes, l)) is
          ∙ ap (λ (l : List ℕ). done (take (length bytes - length rest) bytes, l)) (sym back);
    }
