-- Each field's reader reads exactly what the field's spelling is.
use Rattle.std.proofs.Common.{◌≡◌, ℕ, ◌+◌, ◌^◌, ◌<◌, ◌≤◌, Bool, true, false, cond, ltb, IsTrue, List, [], ◌∷◌, ◌++◌, length, take, drop, Ok, Err, refl, sym, ap, subst, ◌∙◌, length-append, arith}
use Rattle.std.specs.Int.{Width, w16, w32, byte_len, from_be_bytes, to_be_bytes}
use Rattle.std.proofs.lemmas.Bool.{ltb-false, ltb-true, le-ltb}
use Rattle.std.proofs.lemmas.List.{take_at, drop_at, take-append-drop, length-take}
use Rattle.std.proofs.lemmas.Nat.{be_bytes_2, be_bytes_4, from_be_bytes-to_be_bytes_2, from_be_bytes-to_be_bytes_4}
use Rattle.ov_fields.specs.Spelling.{u8}
use Rattle.ov_fields.specs.Reading.{Read, ◌>>=◌, made, byte_at, bytes_at, number_at, number_that}
use Rattle.ov_fields.proofs.ReadingLaws.{AreBytes, AreBytes-front, bind_ok, bind_err, fails_first, fails_later, done, ok_is, Reads, made_of}

-- a test that passed, and one that didn't
pub test_ok : {A : Type 0} (b : Bool) (left : ℕ) (x y : A) → cond b (done x) (Err left) ≡ Ok y → IsTrue b × (x ≡ y)
test_ok true left x y e = (refl, cc)
test_ok false left x y e = absurd cc

pub test_err : {A : Type 0} (b : Bool) (n left : ℕ) (x : A) → cond b (done x) (Err n) ≡ Err left → n ≡ left
test_err true n left x e = absurd cc
test_err false n left x e = cc

pub test_again : {A : Type 0} (b : Bool) (left : ℕ) (x : A) → IsTrue b → cond b (done x) (Err left) ≡ Ok x
test_again true left x h = refl
test_again false left x h = absurd cc

-- ---- a byte

pub byte_takes : (test : ℕ → Bool) (bytes : List ℕ) (x : ℕ × List ℕ) → byte_at test bytes ≡ Ok x → IsTrue (test x.0) × (bytes ≡ x.0 ∷ x.1)
unfolding byte_at
byte_takes test [] x e = absurd cc
byte_takes test (b ∷ bytes) x e =
    let t = test_ok (test b) (length (b ∷ bytes)) (b, bytes) x e in
    subst (λ (y : ℕ × List ℕ). IsTrue (test y.0) × (b ∷ bytes ≡ y.0 ∷ y.1)) t.1 (t.0, refl)

byte_near : (test : ℕ → Bool) (bytes : List ℕ) (left : ℕ) → byte_at test bytes ≡ Err left → (left ≤ length bytes) × (length bytes ≤ left + 1)
unfolding byte_at
byte_near test [] left e = let is : 0 ≡ left = cc in (omega arith, omega arith)
byte_near test (b ∷ bytes) left e =
    let is : length (b ∷ bytes) ≡ left = test_err (test b) (length (b ∷ bytes)) left (b, bytes) e in (omega arith, omega arith)

byte_again : (test : ℕ → Bool) (b : ℕ) (rest : List ℕ) → IsTrue (test b) → byte_at test (b ∷ rest) ≡ Ok (b, rest)
unfolding byte_at
byte_again test b rest h = test_again (test b) (length (b ∷ rest)) (b, rest) h

pub byte_reads : (test : ℕ → Bool) → Reads (byte_at test) u8 (λ b. IsTrue (test b)) 1
byte_reads test = record {
  takes = λ bytes x fits e. byte_takes test bytes x e;
  again = λ b rest h. byte_again test b rest h;
  near = λ bytes left fits e. byte_near test bytes left e;
  short = λ b h. omega arith;
}

-- ---- a number of bytes

long_ok : {A : Type 0} (b : Bool) (left : ℕ) (x y : A) → cond b (Err left) (done x) ≡ Ok y → (b ≡ false) × (x ≡ y)
long_ok true left x y e = absurd cc
long_ok false left x y e = (refl, cc)

pub long_err : {A : Type 0} (b : Bool) (n left : ℕ) (x : A) → cond b (Err n) (done x) ≡ Err left → (b ≡ true) × (n ≡ left)
long_err true n left x e = (refl, cc)
long_err false n left x e = absurd cc

bytes_takes : (count : ℕ) (bytes : List ℕ) (x : List ℕ × List ℕ) → bytes_at count bytes ≡ Ok x → (length x.0 ≡ count) × (bytes ≡ x.0 ++ x.1)
unfolding bytes_at
bytes_takes count bytes x e =
    let g = long_ok (ltb (length bytes) count) 0 (take count bytes, drop count bytes) x e in
    let long : count ≤ length bytes = ltb-false _ _ g.0 in
    subst (λ (y : List ℕ × List ℕ). (length y.0 ≡ count) × (bytes ≡ y.0 ++ y.1)) g.1 (omega (arith, length-take count bytes), sym (take-append-drop count bytes))

bytes_again : (text rest : List ℕ) → bytes_at (length text) (text ++ rest) ≡ Ok (text, rest)
unfolding bytes_at
bytes_again text rest =
    let long : ltb (length (text ++ rest)) (length text) ≡ false = le-ltb _ _ (omega (arith, length-append text rest)) in
    rw (long, take_at text rest (length text) refl, drop_at text rest (length text) refl) refl

bytes_near : (count : ℕ) (bytes : List ℕ) (left : ℕ) → bytes_at count bytes ≡ Err left → (left ≤ length bytes) × (length bytes ≤ left + count)
unfolding bytes_at
bytes_near count bytes left e =
    let g = long_err (ltb (length bytes) count) 0 left (take count bytes, drop count bytes) e in
    let few : length bytes < count = ltb-true _ _ g.0 in
    (omega (arith, g.1), omega (arith, g.1))

pub bytes_reads : (count : ℕ) → Reads (bytes_at count) (λ b. b) (λ b. length b ≡ count) count
bytes_reads count = record {
  takes = λ bytes x fits e. bytes_takes count bytes x e;
  again = λ b rest h. subst (λ (n : ℕ). bytes_at n (b ++ rest) ≡ Ok (b, rest)) h (bytes_again b rest);
  near = λ bytes left fits e. bytes_near count bytes left e;
  short = λ b h. omega arith;
}

-- ---- numbers

pub record IsWide (w : Width) (limit : ℕ) : Type 0 where
  pub len : (n : ℕ) → length (to_be_bytes w n) ≡ byte_len w
  pub back : (bytes : List ℕ) → length bytes ≡ byte_len w → AreBytes bytes → to_be_bytes w (from_be_bytes w bytes) ≡ bytes
  pub again : (n : ℕ) → n < limit → from_be_bytes w (to_be_bytes w n) ≡ n
  pub below : (bytes : List ℕ) → AreBytes bytes → from_be_bytes w bytes < limit

pub wide16 : IsWide w16 (2 ^ 16)
wide16 = record {
  len = λ n. refl;
  back = λ bytes len fits. be_bytes_2 bytes _ len fits.each refl;
  again = λ n lt. from_be_bytes-to_be_bytes_2 n lt;
  below = λ bytes fits. omega (arith, fits.each 0, fits.each 1);
}

pub wide32 : IsWide w32 (2 ^ 32)
wide32 = record {
  len = λ n. refl;
  back = λ bytes len fits. be_bytes_4 bytes _ len fits.each refl;
  again = λ n lt. from_be_bytes-to_be_bytes_4 n lt;
  below = λ bytes fits. omega (arith, fits.each 0, fits.each 1, fits.each 2, fits.each 3);
}

number_takes : (w : Width) (limit : ℕ) → IsWide w limit → (bytes : List ℕ) (x : ℕ × List ℕ) → AreBytes bytes → number_at w bytes ≡ Ok x → (x.0 < limit) × (bytes ≡ to_be_bytes w x.0 ++ x.1)
number_takes w limit wide bytes x fits e =
    let a = bind_ok (bytes_at (byte_len w) bytes) (λ a. done (made_of (from_be_bytes w) a)) x e in
    let t = bytes_takes (byte_len w) bytes a.0 a.1 in
    let front : AreBytes a.0.0 = AreBytes-front a.0.0 a.0.1 (subst AreBytes t.1 fits) in
    let back : to_be_bytes w (from_be_bytes w a.0.0) ≡ a.0.0 = wide.back a.0.0 t.0 front in
    subst (λ (y : ℕ × List ℕ). (y.0 < limit) × (bytes ≡ to_be_bytes w y.0 ++ y.1)) (ok_is (made_of (from_be_bytes w) a.0) x a.2)
    (wide.below a.0.0 front, t.1 ∙ ap (λ (text : List ℕ). text ++ a.0.1) (sym back))

number_again : (w : Width) (limit : ℕ) → IsWide w limit → (n : ℕ) (rest : List ℕ) → n < limit → number_at w (to_be_bytes w n ++ rest) ≡ Ok (n, rest)
number_again w limit wide n rest lt =
    ap (made (from_be_bytes w)) ((bytes_reads (byte_len w)).again (to_be_bytes w n) rest (wide.len n)) ∙ ap (λ (k : ℕ). done (k, rest)) (wide.again n lt)

number_near : (w : Width) (bytes : List ℕ) (left : ℕ) → number_at w bytes ≡ Err left → (left ≤ length bytes) × (length bytes ≤ left + byte_len w)
number_near w bytes left e =
    elim (bind_err (bytes_at (byte_len w) bytes) (λ a. done (made_of (from_be_bytes w) a)) left e) [
      | fails_first bad ↦ bytes_near (byte_len w) bytes left bad
      | fails_later a was more ↦ absurd cc
    ]

pub number_reads : {w : Width} {limit : ℕ} → IsWide w limit → Reads (number_at w) (to_be_bytes w) (λ n. n < limit) (byte_len w)
number_reads {w = w} {limit = limit} wide = record {
  takes = number_takes w limit wide;
  again = number_again w limit wide;
  near = λ bytes left fits e. number_near w bytes left e;
  short = λ n lt. omega (arith, wide.len n);
}

that_takes : (w : Width) (limit : ℕ) → IsWide w limit → (test : ℕ → Bool) (bytes : List ℕ) (x : ℕ × List ℕ) → AreBytes bytes → number_that w test bytes ≡ Ok x
    → ((x.0 < limit) × IsTrue (test x.0)) × (bytes ≡ to_be_bytes w x.0 ++ x.1)
unfolding number_that
that_takes w limit wide test bytes x fits e =
    let a = bind_ok (number_at w bytes) (λ n. cond (test n.0) (Ok n) (Err (length bytes))) x e in
    let t = test_ok (test a.0.0) (length bytes) a.0 x a.2 in
    let one = number_takes w limit wide bytes a.0 fits a.1 in
    subst (λ (y : ℕ × List ℕ). ((y.0 < limit) × IsTrue (test y.0)) × (bytes ≡ to_be_bytes w y.0 ++ y.1)) t.1 ((one.0, t.0), one.1)

that_again : (w : Width) (limit : ℕ) → IsWide w limit → (test : ℕ → Bool) (n : ℕ) (rest : List ℕ) → n < limit → IsTrue (test n) → number_that w test (to_be_bytes w n ++ rest) ≡ Ok (n, rest)
unfolding number_that
that_again w limit wide test n rest lt h =
    ap (λ (r : Read ℕ). r >>= λ k. cond (test k.0) (Ok k) (Err (length (to_be_bytes w n ++ rest)))) (number_again w limit wide n rest lt)
    ∙ test_again (test n) (length (to_be_bytes w n ++ rest)) (n, rest) h

that_near : (w : Width) (limit : ℕ) → IsWide w limit → (test : ℕ → Bool) (bytes : List ℕ) (left : ℕ) → AreBytes bytes → number_that w test bytes ≡ Err left → (left ≤ length bytes) × (length bytes ≤ left + byte_len w)
unfolding number_that
that_near w limit wide test bytes left fits e =
    elim (bind_err (number_at w bytes) (λ n. cond (test n.0) (Ok n) (Err (length bytes))) left e) [
      | fails_first bad ↦ number_near w bytes left bad
      | fails_later a was more ↦
          let is : length bytes ≡ left = test_err (test a.0) (length bytes) left a more in
          (omega arith, omega arith)
    ]

pub that_reads : {w : Width} {limit : ℕ} → IsWide w limit → (test : ℕ → Bool) → Reads (number_that w test) (to_be_bytes w) (λ n. (n < limit) × IsTrue (test n)) (byte_len w)
that_reads {w = w} {limit = limit} wide test = record {
  takes = that_takes w limit wide test;
  again = λ n rest h. that_again w limit wide test n rest h.0 h.1;
  near = that_near w limit wide test;
  short = λ n h. omega (arith, wide.len n);
}
