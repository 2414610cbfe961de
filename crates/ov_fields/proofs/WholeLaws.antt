-- Reading a list of bytes as a whole, and what follows for spellings.
use Rattle.std.proofs.Common.{◌≡◌, ℕ, ◌+◌, ◌≤◌, cond, eqb, List, [], ◌++◌, length, Result, Ok, Err, sym, ap, subst, ◌∙◌, length-append, arith}
use Rattle.std.proofs.lemmas.Bool.{eqb-true}
use Rattle.std.proofs.lemmas.List.{append-nil, nil_from_length}
use Rattle.ov_fields.specs.Reading.{Read, all_of}
use Rattle.ov_fields.proofs.ReadingLaws.{AreBytes, bind_ok, bind_err, fails_first, fails_later, ok_is, Reads}
use Rattle.ov_fields.proofs.FieldLaws.{test_ok, test_err}

abbrev pub ended : {A : Type 0} → A × List ℕ → Result A ℕ
ended a = cond (eqb (length a.1) 0) (Ok a.0) (Err (length a.1))

pub all_takes : {A : Type 0} {read : List ℕ → Read A} {spell : A → List ℕ} {Fits : A → Type 0} {most : ℕ} → Reads read spell Fits most
    → (bytes : List ℕ) (a : A) → AreBytes bytes → all_of (read bytes) ≡ Ok a → Fits a × (bytes ≡ spell a)
all_takes {read = read} {spell = spell} {Fits = Fits} R bytes a fits e =
    let x = bind_ok (read bytes) ended a e in
    let end = test_ok (eqb (length x.0.1) 0) (length x.0.1) x.0.0 a x.2 in
    let t = R.takes bytes x.0 fits x.1 in
    let nothing : x.0.1 ≡ [] = nil_from_length x.0.1 (eqb-true _ _ end.0) in
    let whole : bytes ≡ spell x.0.0 = t.1 ∙ ap (λ (rest : List ℕ). spell x.0.0 ++ rest) nothing ∙ append-nil (spell x.0.0) in
    (subst Fits end.1 t.0, whole ∙ ap spell end.1)

pub all_again : {A : Type 0} {read : List ℕ → Read A} {spell : A → List ℕ} {Fits : A → Type 0} {most : ℕ} → Reads read spell Fits most
    → (a : A) → Fits a → all_of (read (spell a)) ≡ Ok a
all_again {read = read} {spell = spell} R a fits =
    ap (λ (bytes : List ℕ). all_of (read bytes)) (sym (append-nil (spell a))) ∙ ap all_of (R.again a [] fits)

pub all_near : {A : Type 0} {read : List ℕ → Read A} {spell : A → List ℕ} {Fits : A → Type 0} {most : ℕ} → Reads read spell Fits most
    → (bytes : List ℕ) (left : ℕ) → AreBytes bytes → all_of (read bytes) ≡ Err left → (left ≤ length bytes) × (length bytes ≤ left + most)
all_near {read = read} {spell = spell} R bytes left fits e =
    elim (bind_err (read bytes) ended left e) [
      | fails_first bad ↦ R.near bytes left fits bad
      | fails_later a was more ↦
          let t = R.takes bytes a fits was in
          let is : length a.1 ≡ left = test_err (eqb (length a.1) 0) (length a.1) left a.0 more in
          let sum : length bytes ≡ length (spell a.0) + length a.1 = ap length t.1 ∙ length-append (spell a.0) a.1 in
          (omega arith, omega (arith, R.short a.0 t.0))
    ]

abbrev value_and_rest : {A : Type 0} → A → List ℕ → A × List ℕ
value_and_rest a rest = (a, rest)

-- no spelling is the front of another's, and each is of one value
pub no_front : {A : Type 0} {read : List ℕ → Read A} {spell : A → List ℕ} {Fits : A → Type 0} {most : ℕ} → Reads read spell Fits most
    → (a b : A) (x y : List ℕ) → Fits a → Fits b → spell a ++ x ≡ spell b ++ y → (a ≡ b) × (x ≡ y)
no_front {A = A} {read = read} R a b x y fa fb e =
    let same = ok_is (value_and_rest a x) (value_and_rest b y) (sym (R.again a x fa) ∙ ap read e ∙ R.again b y fb) in
    (ap (λ (p : A × List ℕ). p.0) same, ap (λ (p : A × List ℕ). p.1) same)
