-- Wrong places of lists of names of which none comes twice.
use Rattle.std.proofs.Common.{◌≡◌, ℕ, zero, suc, ◌+◌, ◌^◌, ◌<◌, Bool, true, false, List, [], ◌∷◌, ◌++◌, length, Ok, Err, refl, sym, ap, subst, ◌∙◌, append_assoc, length-append, arith}
use Rattle.std.specs.List.{flat_map}
use Rattle.std.proofs.lemmas.List.{append-nil}
use Rattle.ov_base.specs.Names.{IsName}
use Rattle.ov_base.specs.NameLists.{is_among}
use Rattle.ov_fields.specs.Spelling.{name_field, counted}
use Rattle.ov_fields.specs.Fronts.{IsFront}
use Rattle.ov_fields.specs.Reading.{Read, ◌>>=◌, at_most, name_at}
use Rattle.ov_fields.proofs.ReadingLaws.{AreBytes, AreBytes-back, bind_ok, bind_err, fails_first, fails_later, done, no_error, sized_by}
use Rattle.ov_fields.proofs.FieldLaws.{that_reads, wide16}
use Rattle.ov_fields.proofs.NameLaws.{name_reads}
use Rattle.ov_fields.proofs.TestLaws.{le_of}
use Rattle.ov_fields.proofs.PlaceLaws.{Begun, has_nothing, has_name, has_number, Takes, Stops, at_end, at_byte, at_u16, at_u32, at_name, Fault, HasPlaces, lead_fault, none_before, fault_here}
use Rattle.ov_fields.proofs.JoinPlaces.{given_places, refit_places}
use Rattle.ov_fields.proofs.LimitPlaces.{u16_places, at_most_limits}
use Rattle.ov_fields.proofs.ListPlaces.{name_places}
use Rattle.ov_wire.specs.RequestReading.{new_names_at, names_at}
use Rattle.ov_wire.proofs.NamesLaws.{AreNew, behind, others_at, seen_ok, new_are, AreFewNames}
use Rattle.ov_wire.proofs.FreshNames.{fresh_names}

-- this many names that are new after these
abbrev AreSoMany : ℕ → List (List ℕ) → List (List ℕ) → Type 0
AreSoMany count seen names = AreNew seen names × (length names ≡ count)

none_read : (count : ℕ) (seen : List (List ℕ)) → length seen + count < 65536 → IsFront (flat_map name_field) (AreSoMany count seen) []
none_read count seen few = let f = fresh_names count seen few in none_before f.names (f.new, f.size) f.bytes

-- ---- a name that is wrong

whole_front : (whole begun front rest : List ℕ) → Begun ⊥ ⊥ begun rest → front ≡ whole ++ begun → front ≡ whole
whole_front whole begun front rest (has_nothing is) e = e ∙ ap (λ (t : List ℕ). whole ++ t) is ∙ append-nil whole
whole_front whole begun front rest (has_name once name more is spelled) e = absurd once
whole_front whole begun front rest (has_number limited ended few) e = absurd limited

-- what is read behind a name
abbrev then_others : ℕ → List (List ℕ) → List ℕ → List ℕ × List ℕ → Read (List (List ℕ))
then_others count seen bytes name =
    others_at (is_among name.0 seen) (length bytes) count (seen ++ name.0 ∷ []) name.1 >>= λ others. done (behind name.0 others)

name_taken : (count : ℕ) (seen : List (List ℕ)) (t : List ℕ) → Takes (new_names_at (suc count) seen) t → Takes name_at t
unfolding new_names_at
name_taken count seen t ok = let a = bind_ok (name_at t) (then_others count seen t) ok.0 ok.1 in (a.0, a.1)

name_stops : {Once Limited : Type 0} (count : ℕ) (seen : List (List ℕ)) (front rest : List ℕ) → Stops ⊥ ⊥ (Takes name_at) name_field IsName front rest
    → Stops Once Limited (Takes (new_names_at (suc count) seen)) (flat_map name_field) (AreSoMany (suc count) seen) front rest
name_stops count seen front rest (at_end is) = at_end is
name_stops count seen front rest (at_byte b after parts stops) = at_byte b after parts (λ more ok. stops more (name_taken count seen ((front ++ b ∷ []) ++ more) ok))
name_stops count seen front rest (at_u16 limited o) = absurd limited
name_stops count seen front rest (at_u32 limited o) = absurd limited
name_stops count seen front rest (at_name once name after is parts stops) = absurd once

name_fault : {Once Limited : Type 0} → Once → (count : ℕ) (seen : List (List ℕ)) → length seen + suc count < 65536 → (bytes : List ℕ) (left : ℕ)
    → Fault ⊥ ⊥ (Takes name_at) name_field IsName bytes left → Fault Once Limited (Takes (new_names_at (suc count) seen)) (flat_map name_field) (AreSoMany (suc count) seen) bytes left
name_fault once count seen few bytes left f =
    let whole = whole_front f.whole f.begun f.front f.rest f.is_begun f.before in
    let n = f.goes_on in
    record {
      front = f.front;
      rest = f.rest;
      parts = f.parts;
      is_left = f.is_left;
      whole = [];
      begun = f.front;
      before = refl;
      is_begun = has_name once n.value n.more n.form (n.spelled ∙ ap (λ (t : List ℕ). t ++ n.more) (sym whole));
      goes_on = none_read (suc count) seen few;
      stops = name_stops count seen f.front f.rest f.stops;
    }

-- ---- a name that comes twice

seen_no : (b : Bool) (left count : ℕ) (seen : List (List ℕ)) (bytes : List ℕ) (x : List (List ℕ) × List ℕ) → b ≡ true → others_at b left count seen bytes ≡ Ok x → ⊥
seen_no true left count seen bytes x is e = absurd cc
seen_no false left count seen bytes x is e = absurd cc

twice_no : (count : ℕ) (seen : List (List ℕ)) (name : List ℕ) → IsName name → is_among name seen ≡ true → (more : List ℕ) → Takes (new_names_at (suc count) seen) (name_field name ++ more) → ⊥
unfolding new_names_at
twice_no count seen name is twice more ok =
    let bytes = name_field name ++ more in
    let e : then_others count seen bytes (name, more) ≡ Ok ok.0 = ap (λ (x : Read (List ℕ)). x >>= then_others count seen bytes) (sym (name_reads.again name more is)) ∙ ok.1 in
    let b = bind_ok (others_at (is_among name seen) (length bytes) count (seen ++ name ∷ []) more) (λ others. done (behind name others)) ok.0 e in
    seen_no (is_among name seen) (length bytes) count (seen ++ name ∷ []) more b.0 twice b.1

-- ---- the names after one

others_taken : (count : ℕ) (seen : List (List ℕ)) (name : List ℕ) → IsName name → (t : List ℕ) → Takes (new_names_at (suc count) seen) (name_field name ++ t) → Takes (new_names_at count (seen ++ name ∷ [])) t
unfolding new_names_at
others_taken count seen name is t ok =
    let bytes = name_field name ++ t in
    let e : then_others count seen bytes (name, t) ≡ Ok ok.0 = ap (λ (x : Read (List ℕ)). x >>= then_others count seen bytes) (sym (name_reads.again name t is)) ∙ ok.1 in
    let b = bind_ok (others_at (is_among name seen) (length bytes) count (seen ++ name ∷ []) t) (λ others. done (behind name others)) ok.0 e in
    let o = seen_ok (is_among name seen) (length bytes) count (seen ++ name ∷ []) t b.0 b.1 in (b.0, o.1)

front_others : (count : ℕ) (seen : List (List ℕ)) (name : List ℕ) → IsName name → is_among name seen ≡ false
    → (w : List ℕ) → IsFront (flat_map name_field) (AreSoMany count (seen ++ name ∷ [])) w → IsFront (flat_map name_field) (AreSoMany (suc count) seen) (name_field name ++ w)
front_others count seen name is new w f = record {
  value = name ∷ f.value;
  more = f.more;
  form = ((is, new, f.form.0), ap suc f.form.1);
  spelled = ap (λ (t : List ℕ). name_field name ++ t) f.spelled ∙ sym (append_assoc (name_field name) w f.more);
  bytes = f.bytes;
}

seen_cases : (b : Bool) (n left count : ℕ) (seen : List (List ℕ)) (bytes : List ℕ) (P : Type 0) → others_at b n count seen bytes ≡ Err left
    → (b ≡ true → n ≡ left → P) → (b ≡ false → new_names_at count seen bytes ≡ Err left → P) → P
seen_cases true n left count seen bytes P e one two = one refl cc
seen_cases false n left count seen bytes P e one two = two refl e

new_fault : {Once Limited : Type 0} → Once → (count : ℕ) (seen : List (List ℕ)) → length seen + count < 65536 → (bytes : List ℕ) (left : ℕ) → AreBytes bytes → new_names_at count seen bytes ≡ Err left
    → Fault Once Limited (Takes (new_names_at count seen)) (flat_map name_field) (AreSoMany count seen) bytes left
unfolding new_names_at
new_fault once zero seen few bytes left fits e = absurd cc
new_fault {Once = Once} {Limited = Limited} once (suc count) seen few bytes left fits e =
    elim (bind_err (name_at bytes) (then_others count seen bytes) left e) [
      | fails_first bad ↦ name_fault once count seen few bytes left (name_places.fault bytes left fits bad)
      | fails_later a was more ↦
          let one = name_reads.takes bytes a fits was in
          let more_seen = seen ++ a.0 ∷ [] in
          let Goal : List ℕ → Type 0 = λ (l : List ℕ). Fault Once Limited (Takes (new_names_at (suc count) seen)) (flat_map name_field) (AreSoMany (suc count) seen) l left in
          let later = no_error (others_at (is_among a.0 seen) (length bytes) count more_seen a.1) (behind a.0) left more in
          seen_cases (is_among a.0 seen) (length bytes) left count more_seen a.1 (Goal bytes) later
          (λ twice same.
          subst (Fault Once Limited (Takes (new_names_at (suc count) seen)) (flat_map name_field) (AreSoMany (suc count) seen) bytes) same
          (fault_here bytes (none_read (suc count) seen few) (at_name once a.0 a.1 one.0 one.1 (twice_no count seen a.0 one.0 twice))))
          (λ new bad.
          let f = new_fault once count more_seen (omega (arith, few, length-append seen (a.0 ∷ []))) a.1 left (AreBytes-back (name_field a.0) a.1 (subst AreBytes one.1 fits)) bad in
          subst Goal (sym one.1) (lead_fault (name_field a.0) a.1 left f (front_others count seen a.0 one.0 new) (others_taken count seen a.0 one.0)))
    ]

new_places : {Once Limited : Type 0} → Once → (n : ℕ) → n < 65536 → HasPlaces Once Limited (new_names_at n []) (flat_map name_field) (sized_by (AreNew []) length n)
new_places once n small =
    let few : 0 + n < 65536 = omega (arith, small) in
    let f = fresh_names n [] few in
    record {
      value = f.names;
      form = (f.new, f.size);
      bytes = f.bytes;
      fault = new_fault once n [] few;
    }

pub names_places : {Once Limited : Type 0} (most : ℕ) → most < 2 ^ 16 → Once → Limited → HasPlaces Once Limited (names_at most) (counted name_field) (AreFewNames most)
unfolding names_at
names_places most small once limited =
    refit_places (AreFewNames most)
    (given_places (λ n. new_names_at n []) (flat_map name_field) (AreNew []) length (that_reads wide16 (at_most most))
    (u16_places (at_most most) 0 most limited (at_most_limits most (2 ^ 16) small))
    (λ n h. new_places once n (omega (arith, h.0))))
    (λ names form.
    let n = new_are [] names form.1 in
    record { few = le_of most (length names) form.0.1; are_names = (n.0, n.1) })
