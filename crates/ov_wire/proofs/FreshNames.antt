-- There is always a name that isn't among those of a list.
use Rattle.std.proofs.Common.{◌≡◌, ℕ, zero, suc, ◌+◌, ◌<◌, ◌≤◌, ◌⊎◌, inl, inr, Bool, true, false, cond, eqb, ltb, nat_lt, ◌&&◌, ◌||◌, IsTrue, List, [], ◌∷◌, ◌++◌, length, length-append, refl, sym, ap, arith}
use Rattle.std.specs.List.{flat_map, list_all}
use Rattle.std.specs.Str.{bytes_eq}
use Rattle.std.specs.Cmp.Derive.{both_true}
use Rattle.std.proofs.lemmas.Bool.{or_parts, eqb-true, ltb-true, ltb-false}
use Rattle.ov_base.specs.Names.{is_name_byte, IsName}
use Rattle.ov_base.specs.NameLists.{is_among}
use Rattle.ov_fields.specs.Spelling.{name_field}
use Rattle.ov_fields.proofs.ReadingLaws.{AreBytes}
use Rattle.ov_fields.proofs.PlaceLaws.{AreBytes-nil, AreBytes-cons, AreBytes-both}
use Rattle.ov_wire.proofs.NamesLaws.{AreNew}

-- what follows this byte in the names that begin with it
behind_byte : ℕ → List (List ℕ) → List (List ℕ)
behind_byte b [] = []
behind_byte b ([] ∷ names) = behind_byte b names
behind_byte b ((c ∷ name) ∷ names) = cond (eqb b c) (name ∷ behind_byte b names) (behind_byte b names)

among_step : (test : Bool) (b : ℕ) (name other : List ℕ) (names : List (List ℕ)) → (is_among name (behind_byte b names) ≡ false → is_among (b ∷ name) names ≡ false)
    → is_among name (cond test (other ∷ behind_byte b names) (behind_byte b names)) ≡ false → ((test && bytes_eq name other) || is_among (b ∷ name) names) ≡ false
among_step true b name other names later is =
    let both = or_parts (bytes_eq name other) (is_among name (behind_byte b names)) is in rw (both.0) (later both.1)
among_step false b name other names later is = later is

not_among : (b : ℕ) (name : List ℕ) (names : List (List ℕ)) → is_among name (behind_byte b names) ≡ false → is_among (b ∷ name) names ≡ false
unfolding behind_byte
not_among b name [] is = refl
not_among b name ([] ∷ names) is = not_among b name names is
not_among b name ((c ∷ other) ∷ names) is = among_step (eqb b c) b name other names (not_among b name names) is

-- fewer names begin with either byte than there are
fewer_step : (one two : Bool) (a b c : List (List ℕ)) (name : List ℕ) → (one ≡ true → two ≡ false) → length a + length b ≤ length c
    → length (cond one (name ∷ a) a) + length (cond two (name ∷ b) b) ≤ suc (length c)
fewer_step true true a b c name apart few = let no : true ≡ false = apart refl in absurd cc
fewer_step true false a b c name apart few = omega (arith, few)
fewer_step false true a b c name apart few = omega (arith, few)
fewer_step false false a b c name apart few = omega (arith, few)

two_bytes : (c : ℕ) → eqb 97 c ≡ true → eqb 98 c ≡ false
two_bytes c is = let e : 97 ≡ c = eqb-true _ _ is in ap (eqb 98) (sym e)

fewer : (names : List (List ℕ)) → length (behind_byte 97 names) + length (behind_byte 98 names) ≤ length names
unfolding behind_byte
fewer [] = omega arith
fewer ([] ∷ names) = let k = fewer names in omega (arith, k)
fewer ((c ∷ name) ∷ names) = fewer_step (eqb 97 c) (eqb 98 c) (behind_byte 97 names) (behind_byte 98 names) names name (two_bytes c) (fewer names)

-- twice two, and so on
doubled : ℕ → ℕ
doubled zero = 1
doubled (suc n) = doubled n + doubled n

-- a name of this many bytes that is none of these
pub record Other (n : ℕ) (names : List (List ℕ)) : Type 0 where
  pub name : List ℕ
  pub size : length name ≡ n
  pub all : IsTrue (list_all is_name_byte name)
  pub bytes : AreBytes name
  pub new : is_among name names ≡ false

one_more : (n b : ℕ) (names : List (List ℕ)) → b < 256 → IsTrue (is_name_byte b) → Other n (behind_byte b names) → Other (suc n) names
one_more n b names lt is o = record {
  name = b ∷ o.name;
  size = ap suc o.size;
  all = both_true is o.all;
  bytes = AreBytes-cons b o.name lt o.bytes;
  new = not_among b o.name names o.new;
}

half_by : (t : Bool) (a b n k : ℕ) → ltb a k ≡ t → a + b ≤ n → n < k + k → (a < k) ⊎ (b < k)
half_by true a b n k is sum few = inl (ltb-true _ _ is)
half_by false a b n k is sum few = let le : k ≤ a = ltb-false _ _ is in inr (omega (arith, le))

other : (n : ℕ) (names : List (List ℕ)) → length names < doubled n → Other n names
unfolding doubled
other zero [] few = record { name = []; size = refl; all = refl; bytes = AreBytes-nil; new = refl }
other zero (name ∷ names) few = absurd (omega (arith, few))
other (suc n) names few =
    elim (half_by (ltb (length (behind_byte 97 names)) (doubled n)) (length (behind_byte 97 names)) (length (behind_byte 98 names)) (length names) (doubled n) refl (fewer names) few) [
      | inl lt ↦ one_more n 97 names (omega arith) refl (other n (behind_byte 97 names) lt)
      | inr lt ↦ one_more n 98 names (omega arith) refl (other n (behind_byte 98 names) lt)
    ]

-- a name of 17 bytes
pub record Fresh (seen : List (List ℕ)) : Type 0 where
  pub name : List ℕ
  pub size : length name ≡ 17
  pub is_name : IsName name
  pub new : is_among name seen ≡ false
  pub bytes : AreBytes name

pub fresh_name : (seen : List (List ℕ)) → length seen < 65536 → Fresh seen
unfolding doubled
fresh_name seen few =
    let k = fewer seen in
    let o = other 16 (behind_byte 97 seen) (omega (arith, k, few)) in
    let short : nat_lt (length o.name) 64 ≡ true = ap (λ (n : ℕ). nat_lt n 64) o.size in
    record {
      name = 97 ∷ o.name;
      size = ap suc o.size;
      is_name = both_true short o.all;
      new = not_among 97 o.name seen o.new;
      bytes = AreBytes-cons 97 o.name (omega arith) o.bytes;
    }

-- this many names that are new after these
pub record FreshNames (count : ℕ) (seen : List (List ℕ)) : Type 0 where
  pub names : List (List ℕ)
  pub new : AreNew seen names
  pub size : length names ≡ count
  pub bytes : AreBytes (flat_map name_field names)

pub fresh_names : (count : ℕ) (seen : List (List ℕ)) → length seen + count < 65536 → FreshNames count seen
fresh_names zero seen few = record { names = []; new = tt; size = refl; bytes = AreBytes-nil }
fresh_names (suc count) seen few =
    let one = fresh_name seen (omega (arith, few)) in
    let more = fresh_names count (seen ++ one.name ∷ []) (omega (arith, few, length-append seen (one.name ∷ []))) in
    record {
      names = one.name ∷ more.names;
      new = (one.is_name, one.new, more.new);
      size = ap suc more.size;
      bytes = AreBytes-both (name_field one.name) (flat_map name_field more.names) (AreBytes-cons (length one.name) one.name (omega (arith, one.size)) one.bytes) more.bytes;
    }
