-- Names and tokens as fields.
use Rattle.std.proofs.Common.{◌≡◌, ℕ, zero, suc, ◌+◌, ◌-◌, ◌<◌, ◌≤◌, Bool, true, false, ◌&&◌, IsTrue, nat_lt, List, [], ◌∷◌, ◌++◌, length, take, drop, Ok, Err, refl, sym, ap, subst, ◌∙◌, length-append, add-one, arith}
use Rattle.std.specs.List.{flat_map, list_all, AllByRecursion}
use Rattle.std.proofs.lemmas.Bool.Decides.{nat_tests}
use Rattle.std.proofs.lemmas.List.{take_at}
use Rattle.ov_base.specs.Names.{is_letter_or_digit, is_name_byte, IsName}
use Rattle.ov_base.specs.declared.limits.TheConstants.{MAX_NAME_BYTES}
use Rattle.ov_fields.specs.Spelling.{u8, name_field, token_field, IsToken}
use Rattle.ov_fields.specs.Reading.{◌>>=◌, between, byte_at, many_at, text_at, name_at, token_at, token_of}
use Rattle.ov_fields.proofs.ReadingLaws.{AreBytes, AreBytes-back, bind_ok, bind_err, fails_first, fails_later, done, ok_is, no_error, Reads, made_reads, given_reads, sized_by}
use Rattle.ov_fields.proofs.FieldLaws.{byte_takes, byte_reads, bytes_reads}
use Rattle.ov_fields.proofs.Loops.{with_front, goes_on, is_done}
use Rattle.ov_fields.proofs.ListLaws.{many_reads}
use Rattle.ov_fields.proofs.TestLaws.{between_of}

-- ---- names

both_true : (a b : Bool) → IsTrue a → IsTrue b → IsTrue (a && b)
both_true true b p q = q
both_true false b p q = absurd cc

both_are : (a b : Bool) → IsTrue (a && b) → IsTrue a × IsTrue b
both_are true b p = (refl, p)
both_are false b p = absurd cc

all_are : (xs : List ℕ) → AllByRecursion (λ b. IsTrue (is_name_byte b)) xs → IsTrue (list_all is_name_byte xs)
all_are [] h = refl
all_are (x ∷ xs) h = both_true (is_name_byte x) (list_all is_name_byte xs) h.0 (all_are xs h.1)

each_is : (xs : List ℕ) → IsTrue (list_all is_name_byte xs) → AllByRecursion (λ b. IsTrue (is_name_byte b)) xs
each_is [] h = tt
each_is (x ∷ xs) h = let b = both_are (is_name_byte x) (list_all is_name_byte xs) h in (b.0, each_is xs b.1)

pub one_each : (xs : List ℕ) → flat_map u8 xs ≡ xs
one_each [] = refl
one_each (x ∷ xs) = ap (λ (l : List ℕ). x ∷ l) (one_each xs)

-- a first byte, others, and what they are together
pub is_text : (first : ℕ) (others : List ℕ) → IsTrue (is_letter_or_digit first) → length others < MAX_NAME_BYTES → AllByRecursion (λ b. IsTrue (is_name_byte b)) others → IsName (first ∷ others)
is_text first others h short all =
    let few : IsTrue (nat_lt (length others) MAX_NAME_BYTES) = grind (arith, nat_tests) in
    both_true (is_letter_or_digit first && nat_lt (length others) MAX_NAME_BYTES) (list_all is_name_byte others)
    (both_true (is_letter_or_digit first) (nat_lt (length others) MAX_NAME_BYTES) h few) (all_are others all)

abbrev first_and : ℕ → List ℕ × List ℕ → List ℕ × List ℕ
first_and a others = (a ∷ others.0, others.1)

text_takes : (more : ℕ) (bytes : List ℕ) (x : List ℕ × List ℕ) → more < MAX_NAME_BYTES → AreBytes bytes → text_at more bytes ≡ Ok x
    → (IsName x.0 × (length x.0 ≡ suc more)) × (bytes ≡ x.0 ++ x.1)
text_takes more bytes x small fits e =
    let a = bind_ok (byte_at is_letter_or_digit bytes) (λ a. many_at (byte_at is_name_byte) more a.1 >>= λ others. done (first_and a.0 others)) x e in
    let b = bind_ok (many_at (byte_at is_name_byte) more a.0.1) (λ others. done (first_and a.0.0 others)) x a.2 in
    let one = (byte_reads is_letter_or_digit).takes bytes a.0 fits a.1 in
    let two = (many_reads (byte_reads is_name_byte) more).takes a.0.1 b.0 (AreBytes-back (a.0.0 ∷ []) a.0.1 (subst AreBytes one.1 fits)) b.1 in
    let text : bytes ≡ (a.0.0 ∷ b.0.0) ++ b.0.1 =
    one.1 ∙ ap (λ (l : List ℕ). a.0.0 ∷ l) (two.1 ∙ ap (λ (l : List ℕ). l ++ b.0.1) (one_each b.0.0)) in
    let short : length b.0.0 < MAX_NAME_BYTES = omega (arith, two.0.1) in
    subst (λ (y : List ℕ × List ℕ). (IsName y.0 × (length y.0 ≡ suc more)) × (bytes ≡ y.0 ++ y.1)) (ok_is (first_and a.0.0 b.0) x b.2)
    ((is_text a.0.0 b.0.0 one.0 short two.0.0, ap suc two.0.1), text)

text_again : (more : ℕ) (text rest : List ℕ) → IsName text → length text ≡ suc more → text_at more (text ++ rest) ≡ Ok (text, rest)
text_again more [] rest is len = absurd (omega (arith, len))
text_again more (a ∷ others) rest is len =
    let p = both_are (is_letter_or_digit a && nat_lt (length others) MAX_NAME_BYTES) (list_all is_name_byte others) is in
    let q = both_are (is_letter_or_digit a) (nat_lt (length others) MAX_NAME_BYTES) p.0 in
    let n : length others ≡ more = omega (arith, len) in
    let two : many_at (byte_at is_name_byte) more (others ++ rest) ≡ Ok (others, rest) =
    ap (λ (l : List ℕ). many_at (byte_at is_name_byte) more (l ++ rest)) (sym (one_each others))
    ∙ (many_reads (byte_reads is_name_byte) more).again others rest (each_is others p.1, n) in
    rw ((byte_reads is_letter_or_digit).again a (others ++ rest) q.0, two) refl

text_near : (more : ℕ) (bytes : List ℕ) (left : ℕ) → more < MAX_NAME_BYTES → AreBytes bytes → text_at more bytes ≡ Err left → (left ≤ length bytes) × (length bytes ≤ left + MAX_NAME_BYTES)
text_near more bytes left small fits e =
    elim (bind_err (byte_at is_letter_or_digit bytes) (λ a. many_at (byte_at is_name_byte) more a.1 >>= λ others. done (first_and a.0 others)) left e) [
      | fails_first bad ↦ let k = (byte_reads is_letter_or_digit).near bytes left fits bad in (k.0, omega (arith, k.1))
      | fails_later a was rest ↦
          let one = (byte_reads is_letter_or_digit).takes bytes a fits was in
          let k = (many_reads (byte_reads is_name_byte) more).near a.1 left (AreBytes-back (a.0 ∷ []) a.1 (subst AreBytes one.1 fits)) (no_error (many_at (byte_at is_name_byte) more a.1) (first_and a.0) left rest) in
          let sum : length bytes ≡ suc (length a.1) = ap length one.1 in
          (omega (arith, k.0), omega (arith, k.1))
    ]

text_reads : (n : ℕ) → IsTrue (between 1 MAX_NAME_BYTES n) → Reads (text_at (n - 1)) (λ text. text) (sized_by IsName length n) MAX_NAME_BYTES
text_reads n h =
    let b = between_of 1 MAX_NAME_BYTES n h in
    let n-is : suc (n - 1) ≡ n = omega (arith, b.0) in
    let small : n - 1 < MAX_NAME_BYTES = omega (arith, b.1) in
    record {
      takes = λ bytes x fits e. let t = text_takes (n - 1) bytes x small fits e in ((t.0.0, t.0.1 ∙ n-is), t.1);
      again = λ text rest fits. text_again (n - 1) text rest fits.0 (fits.1 ∙ sym n-is);
      near = λ bytes left fits e. text_near (n - 1) bytes left small fits e;
      short = λ text fits. omega (arith, fits.1, b.1);
    }

name_length : (name : List ℕ) → IsName name → IsTrue (between 1 MAX_NAME_BYTES (length name))
name_length [] is = absurd cc
name_length (a ∷ others) is =
    let p = both_are (is_letter_or_digit a && nat_lt (length others) MAX_NAME_BYTES) (list_all is_name_byte others) is in
    let q = both_are (is_letter_or_digit a) (nat_lt (length others) MAX_NAME_BYTES) p.0 in grind (arith, nat_tests)

-- no name has more bytes with its length
abbrev pub longest_name : ℕ
longest_name = 1 + MAX_NAME_BYTES

pub name_reads : Reads name_at name_field IsName longest_name
unfolding name_at
name_reads =
    let R = given_reads (λ n. text_at (n - 1)) (λ text. text) IsName length MAX_NAME_BYTES (byte_reads (between 1 MAX_NAME_BYTES)) text_reads in
    record {
      takes = λ bytes x fits e. let t = R.takes bytes x fits e in (t.0.1, t.1);
      again = λ name rest is. R.again name rest (name_length name is, is);
      near = R.near;
      short = λ name is. R.short name (name_length name is, is);
    }

-- ---- tokens

pub token_reads : Reads token_at token_field IsToken 32
token_reads = made_reads token_of (λ token. token.bytes) (λ bytes. refl) (λ token. refl) (bytes_reads 32)

-- ---- the bytes of a name, as a loop reads them

front_step : (i : ℕ) (bytes : List ℕ) (b : ℕ) (after : List ℕ) → drop i bytes ≡ b ∷ after
    → (take (suc i) bytes ≡ take i bytes ++ b ∷ []) × (after ≡ drop (suc i) bytes) × (suc i ≤ length bytes)
front_step zero [] b after e = absurd cc
front_step (suc i) [] b after e = absurd cc
front_step zero (x ∷ bytes) b after e = let same : x ≡ b = cc in let rest : bytes ≡ after = cc in (ap (λ (y : ℕ). y ∷ []) same, sym rest, omega arith)
front_step (suc i) (x ∷ bytes) b after e =
    let t = front_step i bytes b after e in (ap (λ (l : List ℕ). x ∷ l) t.0, t.1, omega (arith, t.2))

-- this many of the bytes were read
pub record Passes (count i : ℕ) (bytes rest : List ℕ) : Type 0 where
  pub read : with_front (take i bytes) (many_at (byte_at is_name_byte) (count - i) rest) ≡ many_at (byte_at is_name_byte) count bytes
  pub is_rest : rest ≡ drop i bytes
  pub within : i ≤ length bytes

pub passes_on : (count i : ℕ) (bytes rest : List ℕ) (b : ℕ) (after : List ℕ) → i < count → byte_at is_name_byte rest ≡ Ok (b, after) → Passes count i bytes rest → Passes count (i + 1) bytes after
passes_on count i bytes rest b after lt h p =
    let t = byte_takes is_name_byte rest (b, after) h in
    let f = front_step i bytes b after (sym p.is_rest ∙ t.1) in
    let total = many_at (byte_at is_name_byte) count bytes in
    let more = goes_on (byte_at is_name_byte) (take i bytes) count i rest b after total lt h p.read in
    let next : with_front (take i bytes ++ b ∷ []) (many_at (byte_at is_name_byte) (count - suc i) after) ≡ total =
    subst (λ (k : ℕ). with_front (take i bytes ++ b ∷ []) (many_at (byte_at is_name_byte) (count - k) after) ≡ total) (add-one i) more in
    subst (λ (k : ℕ). Passes count k bytes after) (sym (add-one i)) (record {
      read = subst (λ (l : List ℕ). with_front l (many_at (byte_at is_name_byte) (count - suc i) after) ≡ total) (sym f.0) next;
      is_rest = f.1;
      within = f.2;
    })

pub passed : (count i : ℕ) (bytes rest : List ℕ) → count ≤ i → i ≤ count → Passes count i bytes rest
    → (many_at (byte_at is_name_byte) count bytes ≡ Ok (take count bytes, drop count bytes)) × (count ≤ length bytes)
passed count i bytes rest le ge p =
    let e : count ≡ i = omega arith in
    let d = is_done (byte_at is_name_byte) (take i bytes) count i rest _ (omega arith) p.read in
    (d ∙ ap (λ (r : List ℕ). done (take i bytes, r)) p.is_rest ∙ ap (λ (k : ℕ). done (take k bytes, drop k bytes)) (sym e), omega (arith, p.within))

-- the name that a first byte and the others make
pub record TextFound (more : ℕ) (bytes rest : List ℕ) : Type 0 where
  pub room : more + 1 ≤ length bytes
  pub is_name : IsName (take (more + 1) bytes)
  pub read : text_at more bytes ≡ Ok (take (more + 1) bytes, rest)

pub text_found : (more : ℕ) (bytes : List ℕ) (a : ℕ) (after others rest : List ℕ) → more < MAX_NAME_BYTES → AreBytes bytes
    → byte_at is_letter_or_digit bytes ≡ Ok (a, after) → many_at (byte_at is_name_byte) more after ≡ Ok (others, rest) → TextFound more bytes rest
text_found more bytes a after others rest small fits one two =
    let read : text_at more bytes ≡ Ok (a ∷ others, rest) = rw (one, two) refl in
    let t = text_takes more bytes (a ∷ others, rest) small fits read in
    let n : length (a ∷ others) ≡ more + 1 = t.0.1 ∙ sym (add-one more) in
    let front : take (more + 1) bytes ≡ a ∷ others = ap (take (more + 1)) t.1 ∙ take_at (a ∷ others) rest (more + 1) n in
    record {
      room = omega (arith, ap length t.1, length-append (a ∷ others) rest);
      is_name = subst IsName (sym front) t.0.0;
      read = read ∙ ap (λ (l : List ℕ). done (l, rest)) (sym front);
    }
