-- Lists of names of which none comes twice.
use Rattle.std.proofs.Common.{◌≡◌, ℕ, zero, suc, ◌+◌, ◌*◌, ◌^◌, ◌<◌, ◌≤◌, Bool, true, false, cond, ◌||◌, List, [], ◌∷◌, ◌++◌, length, ◌-◌, Option, Some, None, Ok, Err, refl, sym, ap, subst, ◌∙◌, append_assoc, length-append, mul-le-mul_right, arith}
use Rattle.std.specs.List.{flat_map, AllByRecursion, IsDistinct}
use Rattle.std.specs.Str.{bytes_eq}
use Rattle.std.proofs.lemmas.List.Folds.{list_any-append}
use Rattle.std.proofs.lemmas.Slice.Eq.{bytes_eq-Decides}
use Rattle.std.proofs.lemmas.Bool.{or_parts, false_from_ne_true}
use Rattle.std.specs.Prelude.{IfSome}
use Rattle.std.proofs.lemmas.List.{append-nil}
use Rattle.ov_base.specs.Names.{IsName}
use Rattle.ov_base.specs.NameLists.{is_among, appended, with_name}
use Rattle.ov_fields.specs.Spelling.{name_field, counted}
use Rattle.ov_fields.specs.Reading.{Read, ◌>>=◌, at_most, name_at}
use Rattle.ov_fields.proofs.ReadingLaws.{AreBytes, AreBytes-back, bind_ok, bind_err, fails_first, fails_later, done, ok_is, no_error, Reads, given_reads, sized_by}
use Rattle.ov_fields.proofs.Loops.{with_front, regroup}
use Rattle.ov_fields.proofs.FieldLaws.{wide16, that_reads}
use Rattle.ov_fields.proofs.ListLaws.{Reads-more}
use Rattle.ov_fields.proofs.NameLaws.{longest_name, name_reads}
use Rattle.ov_fields.proofs.TestLaws.{le_of, of_le}
use Rattle.ov_wire.specs.Requests.{AreNames}
use Rattle.ov_wire.specs.RequestReading.{new_names_at, names_at}

-- names of which none was seen or comes twice
abbrev pub AreNew : List (List ℕ) → List (List ℕ) → Type 0
AreNew seen [] = Unit {0}
AreNew seen (name ∷ names) = IsName name × (is_among name seen ≡ false) × AreNew (seen ++ name ∷ []) names

abbrev pub behind : List ℕ → List (List ℕ) × List ℕ → List (List ℕ) × List ℕ
behind name others = (name ∷ others.0, others.1)

-- what is read behind a name, whether it was seen or not
abbrev pub others_at : Bool → ℕ → ℕ → List (List ℕ) → List ℕ → Read (List (List ℕ))
others_at test left count seen bytes = cond test (Err left) (new_names_at count seen bytes)

pub seen_ok : (b : Bool) (left count : ℕ) (seen : List (List ℕ)) (bytes : List ℕ) (x : List (List ℕ) × List ℕ) → others_at b left count seen bytes ≡ Ok x
    → (b ≡ false) × (new_names_at count seen bytes ≡ Ok x)
seen_ok true left count seen bytes x e = absurd cc
seen_ok false left count seen bytes x e = (refl, e)

new_takes : (count : ℕ) (seen : List (List ℕ)) (bytes : List ℕ) (x : List (List ℕ) × List ℕ) → AreBytes bytes → new_names_at count seen bytes ≡ Ok x
    → (AreNew seen x.0 × (length x.0 ≡ count)) × (bytes ≡ flat_map name_field x.0 ++ x.1)
unfolding new_names_at
new_takes zero seen bytes x fits e =
    subst (λ (y : List (List ℕ) × List ℕ). (AreNew seen y.0 × (length y.0 ≡ 0)) × (bytes ≡ flat_map name_field y.0 ++ y.1)) (ok_is ([], bytes) x e) ((tt, refl), refl)
new_takes (suc count) seen bytes x fits e =
    let a = bind_ok (name_at bytes) (λ name. others_at (is_among name.0 seen) (length bytes) count (seen ++ name.0 ∷ []) name.1 >>= λ others. done (behind name.0 others)) x e in
    let b = bind_ok (others_at (is_among a.0.0 seen) (length bytes) count (seen ++ a.0.0 ∷ []) a.0.1) (λ others. done (behind a.0.0 others)) x a.2 in
    let g = seen_ok (is_among a.0.0 seen) (length bytes) count (seen ++ a.0.0 ∷ []) a.0.1 b.0 b.1 in
    let one = name_reads.takes bytes a.0 fits a.1 in
    let two = new_takes count (seen ++ a.0.0 ∷ []) a.0.1 b.0 (AreBytes-back (name_field a.0.0) a.0.1 (subst AreBytes one.1 fits)) g.1 in
    let whole : bytes ≡ flat_map name_field (a.0.0 ∷ b.0.0) ++ b.0.1 =
    one.1 ∙ ap (λ (t : List ℕ). name_field a.0.0 ++ t) two.1 ∙ sym (append_assoc (name_field a.0.0) (flat_map name_field b.0.0) b.0.1) in
    subst (λ (y : List (List ℕ) × List ℕ). (AreNew seen y.0 × (length y.0 ≡ suc count)) × (bytes ≡ flat_map name_field y.0 ++ y.1)) (ok_is (behind a.0.0 b.0) x b.2)
    (((one.0, g.0, two.0.0), ap suc two.0.1), whole)

new_again : (seen names : List (List ℕ)) (rest : List ℕ) → AreNew seen names → new_names_at (length names) seen (flat_map name_field names ++ rest) ≡ Ok (names, rest)
unfolding new_names_at
new_again seen [] rest new = refl
new_again seen (name ∷ names) rest new =
    ap (new_names_at (suc (length names)) seen) (append_assoc (name_field name) (flat_map name_field names) rest)
    ∙ rw (name_reads.again name (flat_map name_field names ++ rest) new.0, new.1, new_again (seen ++ name ∷ []) names rest new.2) refl

seen_near : (b : Bool) (n left count : ℕ) (seen : List (List ℕ)) (bytes : List ℕ) → others_at b n count seen bytes ≡ Err left
    → (P : Type 0) → (n ≡ left → P) → (new_names_at count seen bytes ≡ Err left → P) → P
seen_near true n left count seen bytes e P one two = one cc
seen_near false n left count seen bytes e P one two = two e

new_near : (count : ℕ) (seen : List (List ℕ)) (bytes : List ℕ) (left : ℕ) → AreBytes bytes → new_names_at count seen bytes ≡ Err left
    → (left ≤ length bytes) × (length bytes ≤ left + count * longest_name)
unfolding new_names_at
new_near zero seen bytes left fits e = absurd cc
new_near (suc count) seen bytes left fits e =
    elim (bind_err (name_at bytes) (λ name. others_at (is_among name.0 seen) (length bytes) count (seen ++ name.0 ∷ []) name.1 >>= λ others. done (behind name.0 others)) left e) [
      | fails_first bad ↦ let k = name_reads.near bytes left fits bad in (k.0, omega (arith, k.1))
      | fails_later a was more ↦
          let one = name_reads.takes bytes a fits was in
          let sum : length bytes ≡ length (name_field a.0) + length a.1 = ap length one.1 ∙ length-append (name_field a.0) a.1 in
          let few = name_reads.short a.0 one.0 in
          let later = no_error (others_at (is_among a.0 seen) (length bytes) count (seen ++ a.0 ∷ []) a.1) (behind a.0) left more in
          seen_near (is_among a.0 seen) (length bytes) left count (seen ++ a.0 ∷ []) a.1 later ((left ≤ length bytes) × (length bytes ≤ left + suc count * longest_name))
          (λ same. (omega arith, omega arith))
          (λ bad. let k = new_near count (seen ++ a.0 ∷ []) a.1 left (AreBytes-back (name_field a.0) a.1 (subst AreBytes one.1 fits)) bad in
          (omega (arith, k.0), omega (arith, k.1)))
    ]

new_short : (seen names : List (List ℕ)) → AreNew seen names → length (flat_map name_field names) ≤ length names * longest_name
new_short seen [] new = omega arith
new_short seen (name ∷ names) new =
    let k = new_short (seen ++ name ∷ []) names new.2 in
    let one = name_reads.short name new.0 in
    let sum : length (name_field name ++ flat_map name_field names) ≡ length (name_field name) + length (flat_map name_field names) = length-append (name_field name) (flat_map name_field names) in
    omega (arith, k, one, sum)

-- ---- names that are new after each other are distinct

either_false : (a b : Bool) → a ≡ false → b ≡ false → (a || b) ≡ false
either_false true b p q = absurd cc
either_false false b p q = q

other_way : (a b : List ℕ) → bytes_eq a b ≡ false → bytes_eq b a ≡ false
other_way a b ne =
    false_from_ne_true (bytes_eq b a)
    (λ is. let same : b ≡ a = (bytes_eq-Decides b a).0 is in let yes : bytes_eq a b ≡ true = (bytes_eq-Decides a b).1 (sym same) in cc)

among_more : (y : List ℕ) (seen : List (List ℕ)) (name : List ℕ) → is_among y (seen ++ name ∷ []) ≡ (is_among y seen || (bytes_eq y name || false))
among_more y seen name = list_any-append (bytes_eq y) seen (name ∷ [])

-- none of the names was seen
abbrev NoneSeen : List (List ℕ) → List (List ℕ) → Type 0
NoneSeen seen names = AllByRecursion (λ y. is_among y seen ≡ false) names

none_more : (seen : List (List ℕ)) (name : List ℕ) (names : List (List ℕ)) → NoneSeen seen names → AllByRecursion (λ y. bytes_eq name y ≡ false) names → NoneSeen (seen ++ name ∷ []) names
none_more seen name [] none other = tt
none_more seen name (y ∷ names) none other = (
  among_more y seen name ∙ either_false (is_among y seen) (bytes_eq y name || false) none.0 (either_false (bytes_eq y name) false (other_way name y other.0) refl),
  none_more seen name names none.1 other.1,
)

none_less : (seen : List (List ℕ)) (name : List ℕ) (names : List (List ℕ)) → NoneSeen (seen ++ name ∷ []) names → NoneSeen seen names × AllByRecursion (λ y. bytes_eq name y ≡ false) names
none_less seen name [] none = (tt, tt)
none_less seen name (y ∷ names) none =
    let more = none_less seen name names none.1 in
    let both = or_parts (is_among y seen) (bytes_eq y name || false) (sym (among_more y seen name) ∙ none.0) in
    let this = (or_parts (bytes_eq y name) false both.1).0 in
    ((both.0, more.0), (other_way y name this, more.1))

are_new : (seen names : List (List ℕ)) → AllByRecursion IsName names → IsDistinct bytes_eq names → NoneSeen seen names → AreNew seen names
unfolding IsDistinct
are_new seen [] all distinct none = tt
are_new seen (name ∷ names) all distinct none =
    (all.0, none.0, are_new (seen ++ name ∷ []) names all.1 distinct.1 (none_more seen name names none.1 distinct.0))

pub new_are : (seen names : List (List ℕ)) → AreNew seen names → AllByRecursion IsName names × IsDistinct bytes_eq names × NoneSeen seen names
unfolding IsDistinct
new_are seen [] new = (tt, tt, tt)
new_are seen (name ∷ names) new =
    let more = new_are (seen ++ name ∷ []) names new.2 in
    let less = none_less seen name names more.2 in
    ((new.0, more.0), (less.1, more.1), (new.1, less.0))

no_names_seen : (names : List (List ℕ)) → NoneSeen [] names
no_names_seen [] = tt
no_names_seen (name ∷ names) = (refl, no_names_seen names)

-- ---- names behind their number

new_reads : (n : ℕ) → Reads (new_names_at n []) (flat_map name_field) (sized_by (AreNew []) length n) (n * longest_name)
new_reads n = record {
  takes = new_takes n [];
  again = λ names rest fits. subst (λ (k : ℕ). new_names_at k [] (flat_map name_field names ++ rest) ≡ Ok (names, rest)) fits.1 (new_again [] names rest fits.0);
  near = new_near n [];
  short = λ names fits. subst (λ (k : ℕ). length (flat_map name_field names) ≤ k * longest_name) fits.1 (new_short [] names fits.0);
}

-- at most this many names
pub record AreFewNames (most : ℕ) (names : List (List ℕ)) : Type 0 where
  pub few : length names ≤ most
  pub are_names : AreNames names

pub names_reads : (most : ℕ) → most < 2 ^ 16 → Reads (names_at most) (counted name_field) (AreFewNames most) (2 + most * longest_name)
unfolding names_at
names_reads most small =
    let R = given_reads (λ n. new_names_at n []) (flat_map name_field) (AreNew []) length (most * longest_name) (that_reads wide16 (at_most most))
    (λ n h. Reads-more (new_reads n) (most * longest_name) (mul-le-mul_right longest_name (le_of most n h.1))) in
    record {
      takes = λ bytes x fits e.
          let t = R.takes bytes x fits e in
          let n = new_are [] x.0 t.0.1 in
          (record { few = le_of most (length x.0) t.0.0.1; are_names = (n.0, n.1) }, t.1);
      again = λ names rest fits.
          R.again names rest ((omega (arith, fits.few), of_le most (length names) fits.few), are_new [] names fits.are_names.0 fits.are_names.1 (no_names_seen names));
      near = R.near;
      short = λ names fits.
          R.short names ((omega (arith, fits.few), of_le most (length names) fits.few), are_new [] names fits.are_names.0 fits.are_names.1 (no_names_seen names));
    }

-- ---- reading names one after the other, as a loop does

pub goes_on : (front : List (List ℕ)) (count i : ℕ) (bytes name after : List ℕ) (total : Read (List (List ℕ))) → i < count → name_at bytes ≡ Ok (name, after) → is_among name front ≡ false
    → with_front front (new_names_at (count - i) front bytes) ≡ total → with_front (front ++ name ∷ []) (new_names_at (count - (i + 1)) (front ++ name ∷ []) after) ≡ total
unfolding new_names_at
goes_on front count i bytes name after total lt h new so_far =
    let k : count - i ≡ suc (count - (i + 1)) = omega arith in
    let one : with_front front (new_names_at (count - i) front bytes) ≡ with_front (front ++ name ∷ []) (new_names_at (count - (i + 1)) (front ++ name ∷ []) after) =
    rw (k, h, new) (regroup front name (new_names_at (count - (i + 1)) (front ++ name ∷ []) after)) in
    sym one ∙ so_far

pub ends : (place : Option ℕ) (front : List (List ℕ)) (count i : ℕ) (bytes : List ℕ) (total : Read (List (List ℕ))) → i < count → IfSome place (λ left. name_at bytes ≡ Err left)
    → with_front front (new_names_at (count - i) front bytes) ≡ total → IfSome place (λ left. total ≡ Err left)
unfolding new_names_at
ends None front count i bytes total lt h so_far = tt
ends (Some left) front count i bytes total lt h so_far =
    let k : count - i ≡ suc (count - (i + 1)) = omega arith in
    let one : with_front front (new_names_at (count - i) front bytes) ≡ Err left = rw (k, h) refl in
    sym so_far ∙ one

pub ends_twice : (front : List (List ℕ)) (count i : ℕ) (bytes name after : List ℕ) (total : Read (List (List ℕ))) → i < count → name_at bytes ≡ Ok (name, after) → is_among name front ≡ true
    → with_front front (new_names_at (count - i) front bytes) ≡ total → total ≡ Err (length bytes)
unfolding new_names_at
ends_twice front count i bytes name after total lt h seen so_far =
    let k : count - i ≡ suc (count - (i + 1)) = omega arith in
    let one : with_front front (new_names_at (count - i) front bytes) ≡ Err (length bytes) = rw (k, h, seen) refl in
    sym so_far ∙ one

pub is_done : (front : List (List ℕ)) (count i : ℕ) (bytes : List ℕ) (total : Read (List (List ℕ))) → count ≤ i → with_front front (new_names_at (count - i) front bytes) ≡ total → total ≡ Ok (front, bytes)
unfolding new_names_at
is_done front count i bytes total le so_far =
    let k : count - i ≡ 0 = omega arith in
    let one : with_front front (new_names_at (count - i) front bytes) ≡ Ok (front, bytes) = rw k (ap (λ (l : List (List ℕ)). Ok (l, bytes)) (append-nil front)) in
    sym so_far ∙ one

-- whether a name was appended
pub was_appended : (names : List (List ℕ)) (name : List ℕ) → is_among name names ≡ false → with_name names name ≡ names ++ name ∷ []
was_appended names name new = ap (λ (b : Bool). appended b names name) new
