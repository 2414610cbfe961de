-- Wrong places of a file's entry, which is the byte 0 where the file is gone.
use Rattle.std.proofs.Common.{◌≡◌, ℕ, zero, suc, List, [], ◌∷◌, ◌++◌, Ok, Err, sym, ap, subst, ◌∙◌, append_assoc, arith}
use Rattle.ov_base.specs.Names.{IsName}
use Rattle.ov_base.specs.declared.limits.TheConstants.{MAX_FILE_BYTES}
use Rattle.ov_fields.specs.Fronts.{IsFront}
use Rattle.ov_fields.specs.Spelling.{name_field}
use Rattle.ov_fields.specs.Reading.{Read, ◌>>=◌, name_at}
use Rattle.ov_fields.proofs.ReadingLaws.{AreBytes, AreBytes-back, bind_ok, bind_err, fails_first, fails_later, done, no_error, paired, made_of, then_reads}
use Rattle.ov_fields.proofs.FieldLaws.{bytes_reads, number_reads, wide32}
use Rattle.ov_fields.proofs.NameLaws.{name_reads}
use Rattle.ov_fields.proofs.PlaceLaws.{AreBytes-nil, AreBytes-cons, AreBytes-both, Begun, has_nothing, has_name, has_number, Takes, Stops, at_end, at_byte, at_u16, at_u32, at_name, Fault, HasPlaces, lead_fault}
use Rattle.ov_fields.proofs.JoinPlaces.{then_places}
use Rattle.ov_fields.proofs.FieldPlaces.{bytes_places, number_places}
use Rattle.ov_fields.proofs.ListPlaces.{name_places, optional_places}
use Rattle.ov_wire.specs.Entries.{Gone, entry_bytes, IsOfPart, filed_at, file_entry_at, file, file_or_gone_at}
use Rattle.ov_wire.proofs.NumberLaws.{node_reads, at_most_reads}
use Rattle.ov_wire.proofs.NumberPlaces.{at_most_places, node_places}
use Rattle.ov_wire.proofs.FileEntries.{FiledFits, FileFields, StartsNonzero, file_fits, file_is, file_read, file_spelled, filed_fields, name_starts}

filed_places : {Once Limited : Type 0} → Limited → HasPlaces Once Limited filed_at filed_fields FiledFits
filed_places limited =
    let two = then_reads node_reads (at_most_reads MAX_FILE_BYTES (omega arith)) in
    let three = then_reads two (number_reads wide32) in
    then_places (then_reads three (bytes_reads 32))
    (then_places three (then_places two (then_places node_reads (node_places limited) (at_most_places MAX_FILE_BYTES (omega arith) limited)) (number_places wide32)) (bytes_places 32))
    (optional_places (node_places limited))

-- ---- fronts

-- a name goes on to the entry of a file
front_of_name : {Once Limited : Type 0} → HasPlaces Once Limited filed_at filed_fields FiledFits
    → (w : List ℕ) → IsFront name_field IsName w → IsFront entry_bytes (IsOfPart 5) w
front_of_name P w f =
    let all : FileFields = (f.value, P.value) in
    record {
      value = file all;
      more = f.more ++ filed_fields P.value;
      form = file_is (file all) (file_fits all (f.form, P.form));
      spelled = sym (file_spelled all) ∙ ap (λ (t : List ℕ). t ++ filed_fields P.value) f.spelled ∙ append_assoc w f.more (filed_fields P.value);
      bytes = (AreBytes-both f.more (filed_fields P.value) (record { each = f.bytes }) P.bytes).each;
    }

-- and so do the fields behind one
front_behind : (name : List ℕ) → IsName name → (w : List ℕ) → IsFront filed_fields FiledFits w → IsFront entry_bytes (IsOfPart 5) (name_field name ++ w)
front_behind name is w f =
    let all : FileFields = (name, f.value) in
    record {
      value = file all;
      more = f.more;
      form = file_is (file all) (file_fits all (is, f.form));
      spelled = sym (file_spelled all) ∙ ap (λ (t : List ℕ). name_field name ++ t) f.spelled ∙ sym (append_assoc (name_field name) w f.more);
      bytes = f.bytes;
    }

-- ---- what is taken

-- what is read of a name and the fields behind it
abbrev by_name : Read (List ℕ) → Read FileFields
by_name read = read >>= λ a. filed_at a.1 >>= λ b. done (paired a.0 b)

-- where a file's entry is taken there is a name in front, and the fields follow it
taken : (t : List ℕ) → StartsNonzero t → Takes file_or_gone_at t
    → (a : List ℕ × List ℕ) × (name_at t ≡ Ok a) × Takes filed_at a.1
taken t starts ok =
    let x = bind_ok (file_entry_at t) (λ a. done (made_of file a)) ok.0 (sym (file_read t starts) ∙ ok.1) in
    let a = bind_ok (name_at t) (λ a. filed_at a.1 >>= λ b. done (paired a.0 b)) x.0 x.1 in
    let b = bind_ok (filed_at a.0.1) (λ b. done (paired a.0.0 b)) x.0 a.2 in
    (a.0, a.1, (b.0, b.1))

-- the fields are taken behind a name
taken_behind : (name : List ℕ) → IsName name → (t : List ℕ) → Takes file_or_gone_at (name_field name ++ t) → Takes filed_at t
taken_behind name is t ok =
    let x = bind_ok (file_entry_at (name_field name ++ t)) (λ a. done (made_of file a)) ok.0 (sym (file_read (name_field name ++ t) (name_starts name t is)) ∙ ok.1) in
    let y : by_name (Ok (name, t)) ≡ Ok x.0 = ap by_name (sym (name_reads.again name t is)) ∙ x.1 in
    let b = bind_ok (filed_at t) (λ b. done (paired name b)) x.0 y in
    (b.0, b.1)

-- ---- a wrong name

starts_alike : (front : List ℕ) (b : ℕ) (after more : List ℕ) → StartsNonzero (front ++ b ∷ after) → StartsNonzero ((front ++ b ∷ []) ++ more)
starts_alike [] zero after more starts = starts
starts_alike [] (suc b) after more starts = tt
starts_alike (zero ∷ front) b after more starts = starts
starts_alike (suc n ∷ front) b after more starts = tt

-- names alone have neither numbers nor other names
name_stops : {Once Limited : Type 0} (bytes front rest : List ℕ) → StartsNonzero bytes → bytes ≡ front ++ rest
    → Stops ⊥ ⊥ (Takes name_at) name_field IsName front rest → Stops Once Limited (Takes file_or_gone_at) entry_bytes (IsOfPart 5) front rest
name_stops bytes front rest starts parts (at_end is) = at_end is
name_stops bytes front rest starts parts (at_byte b after is stops) =
    let begins : StartsNonzero (front ++ b ∷ after) = subst StartsNonzero (parts ∙ ap (λ (r : List ℕ). front ++ r) is) starts in
    at_byte b after is (λ more ok.
    let a = taken ((front ++ b ∷ []) ++ more) (starts_alike front b after more begins) ok in
    stops more (a.0, a.1))
name_stops bytes front rest starts parts (at_u16 limited o) = absurd limited
name_stops bytes front rest starts parts (at_u32 limited o) = absurd limited
name_stops bytes front rest starts parts (at_name once name after is spelled stops) = absurd once

name_begun : {Once Limited : Type 0} (begun rest : List ℕ) → Begun ⊥ ⊥ begun rest → Begun Once Limited begun rest
name_begun begun rest (has_nothing is) = has_nothing is
name_begun begun rest (has_name once name more is spelled) = absurd once
name_begun begun rest (has_number limited ended few) = absurd limited

wrong_name : {Once Limited : Type 0} → HasPlaces Once Limited filed_at filed_fields FiledFits
    → (bytes : List ℕ) (left : ℕ) → StartsNonzero bytes → AreBytes bytes → name_at bytes ≡ Err left
    → Fault Once Limited (Takes file_or_gone_at) entry_bytes (IsOfPart 5) bytes left
wrong_name P bytes left starts fits bad =
    let N = name_places {Once = ⊥} {Limited = ⊥} in
    let f = N.fault bytes left fits bad in
    record {
      front = f.front;
      rest = f.rest;
      parts = f.parts;
      is_left = f.is_left;
      whole = f.whole;
      begun = f.begun;
      before = f.before;
      is_begun = name_begun f.begun f.rest f.is_begun;
      goes_on = front_of_name P f.whole f.goes_on;
      stops = name_stops bytes f.front f.rest starts f.parts f.stops;
    }

-- ---- an entry that is wrong

wrong_file : {Once Limited : Type 0} → HasPlaces Once Limited filed_at filed_fields FiledFits
    → (bytes : List ℕ) (left : ℕ) → StartsNonzero bytes → AreBytes bytes → file_entry_at bytes ≡ Err left
    → Fault Once Limited (Takes file_or_gone_at) entry_bytes (IsOfPart 5) bytes left
wrong_file {Once = Once} {Limited = Limited} P bytes left starts fits e =
    elim (bind_err (name_at bytes) (λ a. filed_at a.1 >>= λ b. done (paired a.0 b)) left e) [
      | fails_first bad ↦ wrong_name P bytes left starts fits bad
      | fails_later a was more ↦
          let one = name_reads.takes bytes a fits was in
          let f = P.fault a.1 left (AreBytes-back (name_field a.0) a.1 (subst AreBytes one.1 fits)) (no_error (filed_at a.1) (paired a.0) left more) in
          subst (λ (l : List ℕ). Fault Once Limited (Takes file_or_gone_at) entry_bytes (IsOfPart 5) l left) (sym one.1)
          (lead_fault (name_field a.0) a.1 left f (front_behind a.0 one.0) (taken_behind a.0 one.0))
    ]

file_or_gone_fault : {Once Limited : Type 0} → Limited → (bytes : List ℕ) (left : ℕ) → AreBytes bytes → file_or_gone_at bytes ≡ Err left
    → Fault Once Limited (Takes file_or_gone_at) entry_bytes (IsOfPart 5) bytes left
unfolding file_or_gone_at
file_or_gone_fault limited [] left fits e = wrong_file (filed_places limited) [] left tt fits (no_error (file_entry_at []) (made_of file) left e)
file_or_gone_fault limited (zero ∷ bytes) left fits e = absurd cc
file_or_gone_fault limited (suc b ∷ bytes) left fits e =
    wrong_file (filed_places limited) (suc b ∷ bytes) left tt fits (no_error (file_entry_at (suc b ∷ bytes)) (made_of file) left e)

pub file_or_gone_places : {Once Limited : Type 0} → Limited → HasPlaces Once Limited file_or_gone_at entry_bytes (IsOfPart 5)
file_or_gone_places limited = record {
  value = Gone;
  form = tt;
  bytes = AreBytes-cons 0 [] (omega arith) AreBytes-nil;
  fault = file_or_gone_fault limited;
}
