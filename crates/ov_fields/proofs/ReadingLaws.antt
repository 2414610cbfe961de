-- What a reader keeps: it reads exactly the spellings of its values, and a wrong byte is near.
use Rattle.std.proofs.Common.{◌≡◌, ℕ, zero, suc, ◌+◌, ◌<◌, ◌≤◌, List, [], ◌∷◌, ◌++◌, length, get_or, Result, Ok, Err, refl, sym, ap, subst, ◌∙◌, append_assoc, length-append, arith}
use Rattle.ov_fields.specs.Reading.{Read, ◌>>=◌, ◌>>◌, made}

-- each is a byte
pub record AreBytes (bytes : List ℕ) : Type 0 where
  pub each : (i : ℕ) → get_or bytes i 0 < 256

pub AreBytes-back : (front rest : List ℕ) → AreBytes (front ++ rest) → AreBytes rest
AreBytes-back [] rest fits = fits
AreBytes-back (b ∷ front) rest fits = AreBytes-back front rest (record { each = λ i. fits.each (suc i) })

front_at : (b : ℕ) (front : List ℕ) → AreBytes front → b < 256 → (i : ℕ) → get_or (b ∷ front) i 0 < 256
front_at b front tail lt zero = lt
front_at b front tail lt (suc i) = tail.each i

pub AreBytes-front : (front rest : List ℕ) → AreBytes (front ++ rest) → AreBytes front
AreBytes-front [] rest fits = record { each = λ i. omega arith }
AreBytes-front (b ∷ front) rest fits =
    let tail : AreBytes front = AreBytes-front front rest (record { each = λ i. fits.each (suc i) }) in
    record { each = front_at b front tail (fits.each 0) }

-- the value of a step that didn't fail
pub bind_ok : {A B : Type 0} (r : Result A ℕ) (next : A → Result B ℕ) (y : B) → (r >>= next) ≡ Ok y → (x : A) × (r ≡ Ok x) × (next x ≡ Ok y)
bind_ok (Ok x) next y e = (x, refl, e)
bind_ok (Err left) next y e = absurd cc

-- a step that failed, or the one after it
pub data Failing {A B : Type 0} (r : Result A ℕ) (next : A → Result B ℕ) (left : ℕ) : Type 0 where
  fails_first : r ≡ Err left → Failing r next left
  fails_later : (x : A) → r ≡ Ok x → next x ≡ Err left → Failing r next left

pub bind_err : {A B : Type 0} (r : Result A ℕ) (next : A → Result B ℕ) (left : ℕ) → (r >>= next) ≡ Err left → Failing r next left
bind_err (Ok x) next left e = fails_later x refl e
bind_err (Err other) next left e = fails_first cc

abbrev pub done : {A : Type 0} → A → Result A ℕ
done x = Ok x

pub ok_is : {A : Type 0} (x y : A) → done x ≡ done y → x ≡ y
ok_is x y e = cc

-- a reader gives a value that has a spelling exactly where the bytes begin with the spelling, and a
-- wrong byte is one of the next `most`, or comes right after them
pub record Reads {A : Type 0} (read : List ℕ → Read A) (spell : A → List ℕ) (Fits : A → Type 0) (most : ℕ) : Type 0 where
  pub takes : (bytes : List ℕ) (x : A × List ℕ) → AreBytes bytes → read bytes ≡ Ok x → Fits x.0 × (bytes ≡ spell x.0 ++ x.1)
  pub again : (a : A) (rest : List ℕ) → Fits a → read (spell a ++ rest) ≡ Ok (a, rest)
  pub near : (bytes : List ℕ) (left : ℕ) → AreBytes bytes → read bytes ≡ Err left → (left ≤ length bytes) × (length bytes ≤ left + most)
  pub short : (a : A) → Fits a → length (spell a) ≤ most

then_takes : {A B : Type 0} (r : List ℕ → Read A) (s : A → List ℕ) (F : A → Type 0) (m : ℕ) (r' : List ℕ → Read B) (s' : B → List ℕ) (F' : B → Type 0) (m' : ℕ)
    → Reads r s F m → Reads r' s' F' m'
    → (bytes : List ℕ) (x : (A × B) × List ℕ) → AreBytes bytes → (r >> r') bytes ≡ Ok x
    → (F x.0.0 × F' x.0.1) × (bytes ≡ (s x.0.0 ++ s' x.0.1) ++ x.1)
then_takes {A = A} {B = B} r s F m r' s' F' m' R R' bytes x fits e =
    let a = bind_ok (r bytes) (λ a. r' a.1 >>= λ b. Ok ((a.0, b.0), b.1)) x e in
    let b = bind_ok (r' a.0.1) (λ b. Ok ((a.0.0, b.0), b.1)) x a.2 in
    let one = R.takes bytes a.0 fits a.1 in
    let two = R'.takes a.0.1 b.0 (AreBytes-back (s a.0.0) a.0.1 (subst AreBytes one.1 fits)) b.1 in
    let is = ok_is ((a.0.0, b.0.0), b.0.1) x b.2 in
    let whole : bytes ≡ (s a.0.0 ++ s' b.0.0) ++ b.0.1 = one.1 ∙ ap (λ (t : List ℕ). s a.0.0 ++ t) two.1 ∙ sym (append_assoc (s a.0.0) (s' b.0.0) b.0.1) in
    subst (λ (y : (A × B) × List ℕ). (F y.0.0 × F' y.0.1) × (bytes ≡ (s y.0.0 ++ s' y.0.1) ++ y.1)) is ((one.0, two.0), whole)

pub no_error : {A B : Type 0} (r : Result A ℕ) (next : A → B) (left : ℕ) → (r >>= λ x. done (next x)) ≡ Err left → r ≡ Err left
no_error (Ok x) next left e = absurd cc
no_error (Err other) next left e = cc

abbrev pub paired : {A B : Type 0} → A → B × List ℕ → (A × B) × List ℕ
paired a b = ((a, b.0), b.1)

then_second : {A B : Type 0} {r' : List ℕ → Read B} {s' : B → List ℕ} {F' : B → Type 0} {m' : ℕ} → Reads r' s' F' m'
    → (a : A × List ℕ) (left : ℕ) → AreBytes a.1 → (r' a.1 >>= λ b. done (paired a.0 b)) ≡ Err left → (left ≤ length a.1) × (length a.1 ≤ left + m')
then_second {r' = r'} R' a left fits e = R'.near a.1 left fits (no_error (r' a.1) (paired a.0) left e)

then_near : {A B : Type 0} (r : List ℕ → Read A) (s : A → List ℕ) (F : A → Type 0) (m : ℕ) (r' : List ℕ → Read B) (s' : B → List ℕ) (F' : B → Type 0) (m' : ℕ)
    → Reads r s F m → Reads r' s' F' m'
    → (bytes : List ℕ) (left : ℕ) → AreBytes bytes → (r >> r') bytes ≡ Err left → (left ≤ length bytes) × (length bytes ≤ left + (m + m'))
then_near r s F m r' s' F' m' R R' bytes left fits e =
    elim (bind_err (r bytes) (λ a. r' a.1 >>= λ b. Ok ((a.0, b.0), b.1)) left e) [
      | fails_first bad ↦ let n = R.near bytes left fits bad in (n.0, omega (arith, n.1))
      | fails_later a was more ↦
          let one = R.takes bytes a fits was in
          let n = then_second R' a left (AreBytes-back (s a.0) a.1 (subst AreBytes one.1 fits)) more in
          let e : length bytes ≡ length (s a.0) + length a.1 = ap length one.1 ∙ length-append (s a.0) a.1 in
          (omega (arith, n.0), omega (arith, n.1, R.short a.0 one.0))
    ]

pub then_reads : {A B : Type 0} {r : List ℕ → Read A} {s : A → List ℕ} {F : A → Type 0} {m : ℕ} {r' : List ℕ → Read B} {s' : B → List ℕ} {F' : B → Type 0} {m' : ℕ}
    → Reads r s F m → Reads r' s' F' m' → Reads (r >> r') (λ x. s x.0 ++ s' x.1) (λ x. F x.0 × F' x.1) (m + m')
then_reads {r = r} {s = s} {F = F} {m = m} {r' = r'} {s' = s'} {F' = F'} {m' = m'} R R' = record {
  takes = λ bytes x fits e. then_takes r s F m r' s' F' m' R R' bytes x fits e;
  again = λ x rest fits. ap (r >> r') (append_assoc (s x.0) (s' x.1) rest) ∙ rw (R.again x.0 (s' x.1 ++ rest) fits.0, R'.again x.1 rest fits.1) refl;
  near = then_near r s F m r' s' F' m' R R';
  short = λ x fits. omega (arith, length-append (s x.0) (s' x.1), R.short x.0 fits.0, R'.short x.1 fits.1);
}

-- ---- a field that tells the size of the one after it

-- the second field alone, whose size the first has told
abbrev pub sized_by : {B : Type 0} → (B → Type 0) → (B → ℕ) → ℕ → B → Type 0
sized_by F' size n b = F' b × (size b ≡ n)

given_takes : {B : Type 0} (r : List ℕ → Read ℕ) (s : ℕ → List ℕ) (F : ℕ → Type 0) (m : ℕ) (f : ℕ → List ℕ → Read B) (s' : B → List ℕ) (F' : B → Type 0) (size : B → ℕ) (m' : ℕ)
    → Reads r s F m → ((n : ℕ) → F n → Reads (f n) s' (sized_by F' size n) m')
    → (bytes : List ℕ) (x : B × List ℕ) → AreBytes bytes → (r bytes >>= λ n. f n.0 n.1) ≡ Ok x
    → (F (size x.0) × F' x.0) × (bytes ≡ (s (size x.0) ++ s' x.0) ++ x.1)
given_takes r s F m f s' F' size m' R R' bytes x fits e =
    let a = bind_ok (r bytes) (λ n. f n.0 n.1) x e in
    let one = R.takes bytes a.0 fits a.1 in
    let two = (R' a.0.0 one.0).takes a.0.1 x (AreBytes-back (s a.0.0) a.0.1 (subst AreBytes one.1 fits)) a.2 in
    let whole : bytes ≡ (s a.0.0 ++ s' x.0) ++ x.1 = one.1 ∙ ap (λ (t : List ℕ). s a.0.0 ++ t) two.1 ∙ sym (append_assoc (s a.0.0) (s' x.0) x.1) in
    ((subst F (sym two.0.1) one.0, two.0.0), whole ∙ ap (λ (n : ℕ). (s n ++ s' x.0) ++ x.1) (sym two.0.1))

given_near : {B : Type 0} (r : List ℕ → Read ℕ) (s : ℕ → List ℕ) (F : ℕ → Type 0) (m : ℕ) (f : ℕ → List ℕ → Read B) (s' : B → List ℕ) (F' : B → Type 0) (size : B → ℕ) (m' : ℕ)
    → Reads r s F m → ((n : ℕ) → F n → Reads (f n) s' (sized_by F' size n) m')
    → (bytes : List ℕ) (left : ℕ) → AreBytes bytes → (r bytes >>= λ n. f n.0 n.1) ≡ Err left → (left ≤ length bytes) × (length bytes ≤ left + (m + m'))
given_near r s F m f s' F' size m' R R' bytes left fits e =
    elim (bind_err (r bytes) (λ n. f n.0 n.1) left e) [
      | fails_first bad ↦ let n = R.near bytes left fits bad in (n.0, omega (arith, n.1))
      | fails_later a was more ↦
          let one = R.takes bytes a fits was in
          let n = (R' a.0 one.0).near a.1 left (AreBytes-back (s a.0) a.1 (subst AreBytes one.1 fits)) more in
          let e : length bytes ≡ length (s a.0) + length a.1 = ap length one.1 ∙ length-append (s a.0) a.1 in
          (omega (arith, n.0), omega (arith, n.1, R.short a.0 one.0))
    ]

pub given_reads : {B : Type 0} {r : List ℕ → Read ℕ} {s : ℕ → List ℕ} {F : ℕ → Type 0} {m : ℕ} (f : ℕ → List ℕ → Read B) (s' : B → List ℕ) (F' : B → Type 0) (size : B → ℕ) (m' : ℕ)
    → Reads r s F m → ((n : ℕ) → F n → Reads (f n) s' (sized_by F' size n) m')
    → Reads (λ bytes. r bytes >>= λ n. f n.0 n.1) (λ b. s (size b) ++ s' b) (λ b. F (size b) × F' b) (m + m')
given_reads {r = r} {s = s} {F = F} {m = m} f s' F' size m' R R' = record {
  takes = given_takes r s F m f s' F' size m' R R';
  again = λ b rest fits. ap (λ (t : List ℕ). r t >>= λ n. f n.0 n.1) (append_assoc (s (size b)) (s' b) rest)
      ∙ ap (λ (t : Read ℕ). t >>= λ n. f n.0 n.1) (R.again (size b) (s' b ++ rest) fits.0) ∙ (R' (size b) fits.0).again b rest (fits.1, refl);
  near = given_near r s F m f s' F' size m' R R';
  short = λ b fits. omega (arith, length-append (s (size b)) (s' b), R.short (size b) fits.0, (R' (size b) fits.0).short b (fits.1, refl));
}

-- ---- what is made of a value, and taken from it again

abbrev pub made_of : {A B : Type 0} → (A → B) → A × List ℕ → B × List ℕ
made_of make a = (make a.0, a.1)

pub made_reads : {A B : Type 0} {r : List ℕ → Read A} {s : A → List ℕ} {F : A → Type 0} {m : ℕ} (make : A → B) (back : B → A)
    → ((a : A) → back (make a) ≡ a) → ((b : B) → make (back b) ≡ b)
    → Reads r s F m → Reads (λ bytes. made make (r bytes)) (λ b. s (back b)) (λ b. F (back b)) m
made_reads {A = A} {B = B} {r = r} {s = s} {F = F} {m = m} make back one two R = record {
  takes = λ bytes x fits e.
      let a = bind_ok (r bytes) (λ a. done (made_of make a)) x e in
      let t = R.takes bytes a.0 fits a.1 in
      let is = ok_is (made_of make a.0) x a.2 in
      subst (λ (y : B × List ℕ). F (back y.0) × (bytes ≡ s (back y.0) ++ y.1)) is
      (subst (λ (y : A). F y × (bytes ≡ s y ++ a.0.1)) (sym (one a.0.0)) t);
  again = λ b rest fits. ap (λ (t : Read A). t >>= λ a. done (made_of make a)) (R.again (back b) rest fits) ∙ ap (λ (y : B). done (y, rest)) (two b);
  near = λ bytes left fits e. R.near bytes left fits (no_error (r bytes) (made_of make) left e);
  short = λ b fits. R.short (back b) fits;
}

-- a field made into others, where what is made has the field's spelling and form
pub made_into : {A B : Type 0} {r : List ℕ → Read A} {s : A → List ℕ} {F : A → Type 0} {m : ℕ} (make : A → B) (s' : B → List ℕ) (F' : B → Type 0)
    → Reads r s F m → ((a : A) → F a → F' (make a)) → ((a : A) → F a → s a ≡ s' (make a)) → ((b : B) → F' b → (a : A) × F a × (make a ≡ b))
    → Reads (λ bytes. made make (r bytes)) s' F' m
made_into {A = A} {B = B} {r = r} {s = s} make s' F' R form spelled back = record {
  takes = λ bytes x fits e.
      let a = bind_ok (r bytes) (λ a. done (made_of make a)) x e in
      let t = R.takes bytes a.0 fits a.1 in
      subst (λ (y : B × List ℕ). F' y.0 × (bytes ≡ s' y.0 ++ y.1)) (ok_is (made_of make a.0) x a.2)
      (form a.0.0 t.0, t.1 ∙ ap (λ (l : List ℕ). l ++ a.0.1) (spelled a.0.0 t.0));
  again = λ b rest fits.
      let a = back b fits in
      subst (λ (y : B). made make (r (s' y ++ rest)) ≡ Ok (y, rest)) a.2
      (subst (λ (l : List ℕ). made make (r (l ++ rest)) ≡ Ok (make a.0, rest)) (spelled a.0 a.1) (ap (made make) (R.again a.0 rest a.1)));
  near = λ bytes left fits e. R.near bytes left fits (no_error (r bytes) (made_of make) left e);
  short = λ b fits.
      let a = back b fits in
      omega (arith, R.short a.0 a.1, ap length (spelled a.0 a.1 ∙ ap s' a.2));
}

-- a reader of values whose form is said in other words
pub refit : {A : Type 0} {r : List ℕ → Read A} {s : A → List ℕ} {F : A → Type 0} {m : ℕ} (G : A → Type 0)
    → Reads r s F m → ((a : A) → F a → G a) → ((a : A) → G a → F a) → Reads r s G m
refit G R there back = record {
  takes = λ bytes x fits e. let t = R.takes bytes x fits e in (there x.0 t.0, t.1);
  again = λ a rest fits. R.again a rest (back a fits);
  near = R.near;
  short = λ a fits. R.short a (back a fits);
}
