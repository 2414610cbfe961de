-- Wrong places of single fields: bytes, numbers and values that a byte tells.
use Rattle.std.proofs.Common.{◌≡◌, ℕ, zero, suc, ◌-◌, ◌*◌, ◌/◌, ◌%◌, ◌<◌, ◌≤◌, Bool, true, false, cond, ltb, IsTrue, List, [], ◌∷◌, ◌++◌, length, take, Option, Some, None, Ok, Err, refl, sym, ap, subst, ◌∙◌, length-append, arith}
use Rattle.std.specs.Int.{Width, w16, w32, byte_len, from_be_bytes, to_be_bytes}
use Rattle.std.proofs.lemmas.Bool.{ltb-true}
use Rattle.std.proofs.lemmas.List.{append-nil}
use Rattle.ov_base.specs.Sets.{IsBelow, bytes_of, set_of_bytes}
use Rattle.ov_fields.specs.Spelling.{u8, IsOneOf}
use Rattle.ov_fields.specs.Fronts.{IsFront}
use Rattle.ov_fields.specs.Reading.{Read, made, spanned, byte_at, bytes_at, number_at, nothing_at, one_of_at, ok_or_left, tagged_by, set_at}
use Rattle.ov_fields.proofs.ReadingLaws.{AreBytes, bind_ok, done, no_error, made_of}
use Rattle.ov_fields.proofs.FieldLaws.{IsWide, long_err, test_err, bytes_reads}
use Rattle.ov_fields.proofs.SetFields.{set_reads}
use Rattle.ov_fields.proofs.PlaceLaws.{AreBytes-nil, AreBytes-cons, AreBytes-both, Takes, Fault, HasPlaces, lead_fault, none_before, fault_at_byte, fault_cut}

-- ---- bytes that fill a field

-- this many zeros
pub zeros : ℕ → List ℕ
zeros zero = []
zeros (suc n) = 0 ∷ zeros n

pub length-zeros : (n : ℕ) → length (zeros n) ≡ n
unfolding zeros
length-zeros zero = refl
length-zeros (suc n) = ap suc (length-zeros n)

pub zeros-bytes : (n : ℕ) → AreBytes (zeros n)
unfolding zeros
zeros-bytes zero = AreBytes-nil
zeros-bytes (suc n) = AreBytes-cons 0 (zeros n) (omega arith) (zeros-bytes n)

-- the bytes with zeros behind them
abbrev filled : ℕ → List ℕ → List ℕ
filled count bytes = bytes ++ zeros (count - length bytes)

length-filled : (count : ℕ) (bytes : List ℕ) → length bytes ≤ count → length (filled count bytes) ≡ count
length-filled count bytes few = omega (arith, length-append bytes (zeros (count - length bytes)), length-zeros (count - length bytes))

filled-bytes : (count : ℕ) (bytes : List ℕ) → AreBytes bytes → AreBytes (filled count bytes)
filled-bytes count bytes fits = AreBytes-both bytes (zeros (count - length bytes)) fits (zeros-bytes (count - length bytes))

-- ---- tests that fail

pub test_not : {A : Type 0} (b : Bool) (n left : ℕ) (x : A) → cond b (done x) (Err n) ≡ Err left → b ≡ false
test_not true n left x e = absurd cc
test_not false n left x e = refl

pub test_no : {A : Type 0} (b : Bool) (n : ℕ) (x y : A) → b ≡ false → cond b (done x) (Err n) ≡ Ok y → ⊥
test_no true n x y is e = absurd cc
test_no false n x y is e = absurd cc

-- ---- a byte

byte_no : (test : ℕ → Bool) (b : ℕ) → test b ≡ false → (more : List ℕ) → Takes (byte_at test) (b ∷ more) → ⊥
unfolding byte_at
byte_no test b is more ok = test_no (test b) (length (b ∷ more)) (b, more) ok.0 is ok.1

byte_fault : {Once Limited : Type 0} (test : ℕ → Bool) → IsFront u8 (λ b. IsTrue (test b)) [] → (bytes : List ℕ) (left : ℕ) → byte_at test bytes ≡ Err left
    → Fault Once Limited (Takes (byte_at test)) u8 (λ b. IsTrue (test b)) bytes left
unfolding byte_at
byte_fault {Once = Once} {Limited = Limited} test none [] left e =
    let is : 0 ≡ left = cc in subst (Fault Once Limited (Takes (byte_at test)) u8 (λ b. IsTrue (test b)) []) is (fault_cut [] none)
byte_fault {Once = Once} {Limited = Limited} test none (b ∷ bytes) left e =
    let is : length (b ∷ bytes) ≡ left = test_err (test b) (length (b ∷ bytes)) left (b, bytes) e in
    let not : test b ≡ false = test_not (test b) (length (b ∷ bytes)) left (b, bytes) e in
    subst (Fault Once Limited (Takes (byte_at test)) u8 (λ b. IsTrue (test b)) (b ∷ bytes)) is
    (fault_at_byte b bytes none (byte_no test b not))

pub byte_places : {Once Limited : Type 0} (test : ℕ → Bool) (b : ℕ) → b < 256 → IsTrue (test b) → HasPlaces Once Limited (byte_at test) u8 (λ b. IsTrue (test b))
byte_places test b lt is =
    let one : AreBytes (b ∷ []) = AreBytes-cons b [] lt AreBytes-nil in
    record {
      value = b;
      form = is;
      bytes = one;
      fault = λ bytes left fits e. byte_fault test (none_before b is one) bytes left e;
    }

-- ---- a number of bytes

few_bytes : (count : ℕ) (bytes : List ℕ) (left : ℕ) → bytes_at count bytes ≡ Err left → (length bytes < count) × (0 ≡ left)
unfolding bytes_at
few_bytes count bytes left e =
    let g = long_err (ltb (length bytes) count) 0 left _ e in (ltb-true _ _ g.0, g.1)

front_bytes : (count : ℕ) (bytes : List ℕ) → length bytes ≤ count → IsFront (λ b. b) (λ b. length b ≡ count) bytes
front_bytes count bytes few = record {
  value = filled count bytes;
  more = zeros (count - length bytes);
  form = length-filled count bytes few;
  spelled = refl;
  bytes = (zeros-bytes (count - length bytes)).each;
}

pub bytes_places : {Once Limited : Type 0} (count : ℕ) → HasPlaces Once Limited (bytes_at count) (λ b. b) (λ b. length b ≡ count)
bytes_places {Once = Once} {Limited = Limited} count = record {
  value = zeros count;
  form = length-zeros count;
  bytes = zeros-bytes count;
  fault = λ bytes left fits e.
      let few = few_bytes count bytes left e in
      subst (Fault Once Limited (Takes (bytes_at count)) (λ b. b) (λ b. length b ≡ count) bytes) few.1 (fault_cut bytes (front_bytes count bytes (omega (arith, few.0))));
}

-- ---- numbers

pub few_number : (w : Width) (bytes : List ℕ) (left : ℕ) → number_at w bytes ≡ Err left → (length bytes < byte_len w) × (0 ≡ left)
few_number w bytes left e = few_bytes (byte_len w) bytes left (no_error (bytes_at (byte_len w) bytes) (made_of (from_be_bytes w)) left e)

abbrev filled_number : Width → List ℕ → ℕ
filled_number w bytes = from_be_bytes w (filled (byte_len w) bytes)

filled_back : {w : Width} {limit : ℕ} → IsWide w limit → (bytes : List ℕ) → length bytes ≤ byte_len w → AreBytes bytes → to_be_bytes w (filled_number w bytes) ≡ filled (byte_len w) bytes
filled_back {w = w} wide bytes few fits = wide.back (filled (byte_len w) bytes) (length-filled (byte_len w) bytes few) (filled-bytes (byte_len w) bytes fits)

front_number : {w : Width} {limit : ℕ} → IsWide w limit → (bytes : List ℕ) → length bytes ≤ byte_len w → AreBytes bytes → IsFront (to_be_bytes w) (λ n. n < limit) bytes
front_number {w = w} wide bytes few fits = record {
  value = filled_number w bytes;
  more = zeros (byte_len w - length bytes);
  form = wide.below (filled (byte_len w) bytes) (filled-bytes (byte_len w) bytes fits);
  spelled = filled_back wide bytes few fits;
  bytes = (zeros-bytes (byte_len w - length bytes)).each;
}

pub number_places : {Once Limited : Type 0} {w : Width} {limit : ℕ} → IsWide w limit → HasPlaces Once Limited (number_at w) (to_be_bytes w) (λ n. n < limit)
number_places {Once = Once} {Limited = Limited} {w = w} {limit = limit} wide = record {
  value = filled_number w [];
  form = wide.below (filled (byte_len w) []) (filled-bytes (byte_len w) [] AreBytes-nil);
  bytes = subst AreBytes (sym (filled_back wide [] (omega arith) AreBytes-nil)) (filled-bytes (byte_len w) [] AreBytes-nil);
  fault = λ bytes left fits e.
      let few = few_number w bytes left e in
      subst (Fault Once Limited (Takes (number_at w)) (to_be_bytes w) (λ n. n < limit) bytes) few.1 (fault_cut bytes (front_number wide bytes (omega (arith, few.0)) fits));
}

one_byte : (n : ℕ) → n % 256 < 256
one_byte n = omega arith

-- the bytes of a number
pub u16-bytes : (n : ℕ) → AreBytes (to_be_bytes w16 n)
u16-bytes n = AreBytes-cons _ _ (one_byte (n / 256)) (AreBytes-cons _ _ (one_byte n) AreBytes-nil)

pub u32-bytes : (n : ℕ) → AreBytes (to_be_bytes w32 n)
u32-bytes n =
    AreBytes-cons _ _ (one_byte (n / 16777216)) (AreBytes-cons _ _ (one_byte (n / 65536))
    (AreBytes-cons _ _ (one_byte (n / 256)) (AreBytes-cons _ _ (one_byte n) AreBytes-nil)))

-- ---- values that a byte tells

none_told : {A : Type 0} (o : Option A) (bytes : List ℕ) (n left : ℕ) → ok_or_left o bytes n ≡ Err left → (o ≡ None) × (n ≡ left)
none_told (Some value) bytes n left e = absurd cc
none_told None bytes n left e = (refl, cc)

told_no : {A : Type 0} (o : Option A) (bytes : List ℕ) (n : ℕ) (x : A × List ℕ) → o ≡ None → ok_or_left o bytes n ≡ Ok x → ⊥
told_no (Some value) bytes n x is e = absurd cc
told_no None bytes n x is e = absurd cc

one_no : {A : Type 0} (tag : A → ℕ) (values : List A) (byte : ℕ) → tagged_by tag values byte ≡ None → (more : List ℕ) → Takes (one_of_at tag values) (byte ∷ more) → ⊥
unfolding one_of_at
one_no tag values byte is more ok = told_no (tagged_by tag values byte) more (length (byte ∷ more)) ok.0 is ok.1

one_fault : {A Once Limited : Type 0} (tag : A → ℕ) (values : List A) → IsFront (λ a. tag a ∷ []) (λ (a : A). IsOneOf a values) []
    → (bytes : List ℕ) (left : ℕ) → one_of_at tag values bytes ≡ Err left → Fault Once Limited (Takes (one_of_at tag values)) (λ a. tag a ∷ []) (λ (a : A). IsOneOf a values) bytes left
unfolding one_of_at
one_fault {A = A} {Once = Once} {Limited = Limited} tag values none [] left e =
    let is : 0 ≡ left = cc in subst (Fault Once Limited (Takes (one_of_at tag values)) (λ a. tag a ∷ []) (λ (a : A). IsOneOf a values) []) is (fault_cut [] none)
one_fault {A = A} {Once = Once} {Limited = Limited} tag values none (byte ∷ bytes) left e =
    let t = none_told (tagged_by tag values byte) bytes (length (byte ∷ bytes)) left e in
    subst (Fault Once Limited (Takes (one_of_at tag values)) (λ a. tag a ∷ []) (λ (a : A). IsOneOf a values) (byte ∷ bytes)) t.1
    (fault_at_byte byte bytes none (one_no tag values byte t.0))

pub one_of_places : {A Once Limited : Type 0} (tag : A → ℕ) (values : List A) (a : A) → IsOneOf a values → tag a < 256
    → HasPlaces Once Limited (one_of_at tag values) (λ a. tag a ∷ []) (λ (a : A). IsOneOf a values)
one_of_places tag values a is small =
    let one : AreBytes (tag a ∷ []) = AreBytes-cons (tag a) [] small AreBytes-nil in
    record {
      value = a;
      form = is;
      bytes = one;
      fault = λ bytes left fits e. one_fault tag values (none_before a is one) bytes left e;
    }

-- ---- nothing

pub nothing_places : {Once Limited : Type 0} → HasPlaces Once Limited nothing_at (λ n. []) (λ n. Unit {0})
nothing_places = record {
  value = tt;
  form = tt;
  bytes = AreBytes-nil;
  fault = λ bytes left fits e. absurd cc;
}

-- ---- bytes as they are

front_spanned : {A : Type 0} {s : A → List ℕ} {F : A → Type 0} (Form : List ℕ → Type 0) → ((a : A) → F a → Form (s a)) → (w : List ℕ) → IsFront s F w → IsFront (λ text. text) Form w
front_spanned {s = s} Form form w f = record { value = s f.value; more = f.more; form = form f.value f.form; spelled = f.spelled; bytes = f.bytes }

pub spanned_places : {A Once Limited : Type 0} {r : List ℕ → Read A} {s : A → List ℕ} {F : A → Type 0} (Form : List ℕ → Type 0) → ((a : A) → F a → Form (s a))
    → HasPlaces Once Limited r s F → HasPlaces Once Limited (spanned r) (λ text. text) Form
spanned_places {r = r} {s = s} Form form P = record {
  value = s P.value;
  form = form P.value P.form;
  bytes = P.bytes;
  fault = λ bytes left fits e.
      lead_fault [] bytes left (P.fault bytes left fits (no_error (r bytes) (λ a. (take (length bytes - length a.1) bytes, a.1)) left e)) (front_spanned Form form)
      (λ t ok. let a = bind_ok (r t) (λ a. done (take (length t - length a.1) t, a.1)) ok.0 ok.1 in (a.0, a.1));
}

-- ---- sets

abbrev below_bytes : ℕ → ℕ → Type 0
below_bytes count set = IsBelow (8 * count) set

set_filled : (count : ℕ) (bytes : List ℕ) → length bytes ≤ count → AreBytes bytes → below_bytes count (set_of_bytes (filled count bytes)) × (bytes_of count (set_of_bytes (filled count bytes)) ≡ filled count bytes)
set_filled count bytes few fits =
    let all = filled count bytes in
    let read : set_at count (all ++ []) ≡ Ok (set_of_bytes all, []) = ap (made set_of_bytes) ((bytes_reads count).again all [] (length-filled count bytes few)) in
    let t = (set_reads count).takes (all ++ []) (set_of_bytes all, []) (subst AreBytes (sym (append-nil all)) (filled-bytes count bytes fits)) read in
    (t.0, sym (append-nil (bytes_of count (set_of_bytes all))) ∙ sym t.1 ∙ append-nil all)

pub set_places : {Once Limited : Type 0} (count : ℕ) → HasPlaces Once Limited (set_at count) (bytes_of count) (IsBelow (8 * count))
set_places {Once = Once} {Limited = Limited} count =
    let none = set_filled count [] (omega arith) AreBytes-nil in
    record {
      value = set_of_bytes (filled count []);
      form = none.0;
      bytes = subst AreBytes (sym none.1) (filled-bytes count [] AreBytes-nil);
      fault = λ bytes left fits e.
          let few = few_bytes count bytes left (no_error (bytes_at count bytes) (made_of set_of_bytes) left e) in
          let all = set_filled count bytes (omega (arith, few.0)) fits in
          subst (Fault Once Limited (Takes (set_at count)) (bytes_of count) (IsBelow (8 * count)) bytes) few.1
          (fault_cut bytes (record {
            value = set_of_bytes (filled count bytes);
            more = zeros (count - length bytes);
            form = all.0;
            spelled = all.1;
            bytes = (zeros-bytes (count - length bytes)).each;
          }));
    }
