-- Wrong places of values of several kinds, and of lists of bytes that are read as a whole.
use Rattle.std.proofs.Common.{◌≡◌, ℕ, ◌-◌, ◌⊎◌, inl, inr, Bool, true, false, cond, eqb, List, [], ◌∷◌, ◌++◌, length, Ok, Err, refl, sym, ap, subst, ◌∙◌, append_assoc, length-append, arith}
use Rattle.std.specs.List.{AllByRecursion}
use Rattle.std.proofs.lemmas.Bool.{eqb-true}
use Rattle.std.proofs.lemmas.List.{append-nil}
use Rattle.std.specs.Int.{Width, w16, w32, to_be_bytes}
use Rattle.ov_fields.specs.Spelling.{name_field}
use Rattle.ov_fields.specs.Fronts.{IsFront, IsBegun, nothing, in_name, in_number, IsWrongNumber, IsWrongField, wrong_byte, wrong_u16, wrong_u32, name_twice, IsWrongPlace}
use Rattle.ov_fields.specs.Reading.{Read, ◌>>=◌, made, making, all_of, by_kind, by_rows}
use Rattle.ov_fields.proofs.ReadingLaws.{AreBytes, AreBytes-back, bind_ok, bind_err, fails_first, fails_later, done, no_error, Reads, made_of}
use Rattle.ov_fields.proofs.FieldLaws.{test_ok, test_err}
use Rattle.ov_fields.proofs.WholeLaws.{ended}
use Rattle.ov_fields.proofs.KindLaws.{IsKind}
use Rattle.ov_fields.proofs.RowLaws.{all_made, made_ok, made_err}
use Rattle.ov_fields.proofs.PlaceLaws.{Begun, has_nothing, has_name, has_number, Takes, OutsideLimits, Stops, at_end, at_byte, at_u16, at_u32, at_name, Fault, HasPlaces, lead_fault, fault_at_byte, fault_cut}

-- ---- a kind byte, and what stands for a value of this kind

front_kind : {A U : Type 0} {s : A → List ℕ} {F : A → Type 0} {spell : U → List ℕ} {Form : U → Type 0} {kind : ℕ} {make : A → U} → IsKind s F spell Form kind make
    → (w : List ℕ) → IsFront s F w → IsFront spell Form (kind ∷ w)
front_kind {kind = kind} {make = make} K w f = record {
  value = make f.value;
  more = f.more;
  form = K.form f.value f.form;
  spelled = sym (K.spelled f.value) ∙ ap (λ (t : List ℕ). kind ∷ t) f.spelled;
  bytes = f.bytes;
}

pub kind_fault : {A U Once Limited : Type 0} {r : List ℕ → Read A} {s : A → List ℕ} {F : A → Type 0} {read : List ℕ → Read U} {spell : U → List ℕ} {Form : U → Type 0} (kind : ℕ) (make : A → U)
    → HasPlaces Once Limited r s F → IsKind s F spell Form kind make → ((t : List ℕ) → read (kind ∷ t) ≡ made make (r t))
    → (bytes : List ℕ) (left : ℕ) → AreBytes (kind ∷ bytes) → made make (r bytes) ≡ Err left → Fault Once Limited (Takes read) spell Form (kind ∷ bytes) left
kind_fault {r = r} kind make P K same bytes left fits e =
    lead_fault (kind ∷ []) bytes left (P.fault bytes left (AreBytes-back (kind ∷ []) bytes fits) (no_error (r bytes) (made_of make) left e)) (front_kind K)
    (λ t ok. let a = bind_ok (r t) (λ a. done (made_of make a)) ok.0 (sym (same t) ∙ ok.1) in (a.0, a.1))

-- no kind has this byte
pub no_kind_fault : {U Once Limited : Type 0} {read : List ℕ → Read U} {spell : U → List ℕ} {Form : U → Type 0} (kind : ℕ)
    → IsFront spell Form [] → ((t : List ℕ) (x : U × List ℕ) → read (kind ∷ t) ≡ Ok x → ⊥)
    → (bytes : List ℕ) (left : ℕ) → length (kind ∷ bytes) ≡ left → Fault Once Limited (Takes read) spell Form (kind ∷ bytes) left
no_kind_fault {Once = Once} {Limited = Limited} {read = read} {spell = spell} {Form = Form} kind none refused bytes left is =
    subst (Fault Once Limited (Takes read) spell Form (kind ∷ bytes)) is
    (fault_at_byte kind bytes none (λ more ok. refused more ok.0 ok.1))

-- ---- bytes that are read as a whole

-- the bytes are all read
abbrev pub IsWhole : {U : Type 0} → (List ℕ → Read U) → List ℕ → Type 0
IsWhole {U = U} read bytes = (u : U) × (all_of (read bytes) ≡ Ok u)

-- a value that all of the bytes don't spell
ended_not : {A : Type 0} (a : A) (b : ℕ) (rest : List ℕ) (u : A) → ended (a, b ∷ rest) ≡ Ok u → ⊥
ended_not a b rest u e =
    let t = test_ok (eqb (length (b ∷ rest)) 0) (length (b ∷ rest)) a u e in
    let none : length (b ∷ rest) ≡ 0 = eqb-true _ _ t.0 in absurd (omega (arith, none))

-- bytes follow a whole spelling
behind_whole : {A Once Limited : Type 0} (r : List ℕ → Read A) (s : A → List ℕ) (F : A → Type 0) (m : ℕ) → Reads r s F m
    → (a : A) → F a → (rest : List ℕ) (left : ℕ) → ended (a, rest) ≡ Err left → Fault Once Limited (IsWhole r) s F (s a ++ rest) left
behind_whole r s F m R a form [] left e = absurd cc
behind_whole {A = A} {Once = Once} {Limited = Limited} r s F m R a form (b ∷ rest) left e =
    let is : length (b ∷ rest) ≡ left = test_err (eqb (length (b ∷ rest)) 0) (length (b ∷ rest)) left a e in
    record {
      front = s a;
      rest = b ∷ rest;
      parts = refl;
      is_left = is;
      whole = s a;
      begun = [];
      before = sym (append-nil (s a));
      is_begun = has_nothing refl;
      goes_on = record { value = a; more = []; form = form; spelled = sym (append-nil (s a)); bytes = λ i. omega arith };
      stops = at_byte b rest refl (λ more ok.
          let same : r ((s a ++ b ∷ []) ++ more) ≡ Ok (a, b ∷ more) = ap r (append_assoc (s a) (b ∷ []) more) ∙ R.again a (b ∷ more) form in
          ended_not a b more ok.0 (ap (λ (x : Read A). x >>= ended) (sym same) ∙ ok.1));
    }

pub whole_fault : {A Once Limited : Type 0} {r : List ℕ → Read A} {s : A → List ℕ} {F : A → Type 0} {m : ℕ} → Reads r s F m → HasPlaces Once Limited r s F
    → (bytes : List ℕ) (left : ℕ) → AreBytes bytes → all_of (r bytes) ≡ Err left → Fault Once Limited (IsWhole r) s F bytes left
whole_fault {Once = Once} {Limited = Limited} {r = r} {s = s} {F = F} {m = m} R P bytes left fits e =
    elim (bind_err (r bytes) ended left e) [
      | fails_first bad ↦
          lead_fault [] bytes left (P.fault bytes left fits bad) (λ w f. f) (λ t ok. let a = bind_ok (r t) ended ok.0 ok.1 in (a.0, a.1))
      | fails_later a was more ↦
          let one = R.takes bytes a fits was in
          subst (λ (l : List ℕ). Fault Once Limited (IsWhole r) s F l left) (sym one.1) (behind_whole r s F m R a.0 one.0 a.1 left more)
    ]

-- ---- tables

-- what follows a kind byte in the spelling of a value
abbrev pub tail_of : {U : Type 0} → U × List ℕ → List ℕ
tail_of x = x.1

abbrev pub HasTail : {U : Type 0} → (U → List ℕ) → (U → Type 0) → ℕ → U × List ℕ → Type 0
HasTail spell Form kind x = Form x.0 × (spell x.0 ≡ kind ∷ x.1)

-- a row of a table; whether names may come twice is said by kind
pub record RowPlaces {U : Type 0} (Once : ℕ → Type 0) (Limited : Type 0) (spell : U → List ℕ) (Form : U → Type 0) (row : ℕ × (List ℕ → Read U)) : Type 0 where
  pub fault : (bytes : List ℕ) (left : ℕ) → AreBytes bytes → all_of (row.1 bytes) ≡ Err left → Fault (Once row.0) Limited (IsWhole row.1) tail_of (HasTail spell Form row.0) bytes left

front_tail : {A U : Type 0} {s : A → List ℕ} {F : A → Type 0} {spell : U → List ℕ} {Form : U → Type 0} {kind : ℕ} {make : A → U} → IsKind s F spell Form kind make
    → (w : List ℕ) → IsFront s F w → IsFront tail_of (HasTail spell Form kind) w
front_tail {s = s} {make = make} K w f = record {
  value = (make f.value, s f.value);
  more = f.more;
  form = (K.form f.value f.form, sym (K.spelled f.value));
  spelled = f.spelled;
  bytes = f.bytes;
}

pub row_places : {A U Limited : Type 0} {Once : ℕ → Type 0} {r : List ℕ → Read A} {s : A → List ℕ} {F : A → Type 0} {m : ℕ} {spell : U → List ℕ} {Form : U → Type 0} (kind : ℕ) (make : A → U)
    → Reads r s F m → HasPlaces (Once kind) Limited r s F → IsKind s F spell Form kind make → RowPlaces Once Limited spell Form (kind, making make r)
row_places {r = r} kind make R P K = record {
  fault = λ bytes left fits e.
      lead_fault [] bytes left (whole_fault R P bytes left fits (made_err make (all_of (r bytes)) left (sym (all_made make (r bytes)) ∙ e))) (front_tail K)
      (λ t ok. let a = made_ok make (all_of (r t)) ok.0 (sym (all_made make (r t)) ∙ ok.1) in (a.0, a.1));
}

this_row : {U : Type 0} (b : Bool) (x y : Read U) → b ≡ true → cond b x y ≡ x
this_row true x y is = refl
this_row false x y is = absurd cc

next_row : {U : Type 0} (b : Bool) (x y : Read U) → b ≡ false → cond b x y ≡ y
next_row true x y is = absurd cc
next_row false x y is = refl

by_test : (b : Bool) (P : Type 0) → (b ≡ true → P) → (b ≡ false → P) → P
by_test true P one two = one refl
by_test false P one two = two refl

behind_kind : {U : Type 0} (spell : U → List ℕ) (Form : U → Type 0) (kind : ℕ) (w : List ℕ) → IsFront tail_of (HasTail spell Form kind) w → IsFront spell Form (kind ∷ w)
behind_kind spell Form kind w f = record {
  value = f.value.0;
  more = f.more;
  form = f.form.0;
  spelled = f.form.1 ∙ ap (λ (t : List ℕ). kind ∷ t) f.spelled;
  bytes = f.bytes;
}

no_row : {U : Type 0} (kind : ℕ) (bytes : List ℕ) (u : U) → all_of (by_kind [] kind bytes) ≡ Ok u → ⊥
no_row kind bytes u e = absurd cc

-- the rows that are left of a table
kind_rows : {U Limited : Type 0} (Once : ℕ → Type 0) (spell : U → List ℕ) (Form : U → Type 0) (table rows : List (ℕ × (List ℕ → Read U))) → AllByRecursion (RowPlaces Once Limited spell Form) rows → IsFront spell Form []
    → (kind : ℕ) → ((t : List ℕ) → by_kind table kind t ≡ by_kind rows kind t)
    → (bytes : List ℕ) (left : ℕ) → AreBytes bytes → all_of (by_kind rows kind bytes) ≡ Err left → Fault (Once kind) Limited (IsWhole (by_rows table)) spell Form (kind ∷ bytes) left
kind_rows {Limited = Limited} Once spell Form table [] all none kind left_of bytes left fits e =
    let is : length (kind ∷ bytes) ≡ left = cc in
    subst (Fault (Once kind) Limited (IsWhole (by_rows table)) spell Form (kind ∷ bytes)) is
    (fault_at_byte kind bytes none (λ more ok. no_row kind more ok.0 (ap all_of (sym (left_of more)) ∙ ok.1)))
kind_rows {U = U} {Limited = Limited} Once spell Form table (row ∷ rows) all none kind left_of bytes left fits e =
    let Goal = Fault (Once kind) Limited (IsWhole (by_rows table)) spell Form (kind ∷ bytes) left in
    by_test (eqb kind row.0) Goal
    (λ is.
    let same : (t : List ℕ) → by_kind (row ∷ rows) kind t ≡ row.1 t = λ t. this_row (eqb kind row.0) (row.1 t) (by_kind rows kind t) is in
    let f = all.0.fault bytes left fits (ap all_of (sym (same bytes)) ∙ e) in
    let g : Fault (Once kind) Limited (IsWhole row.1) tail_of (HasTail spell Form kind) bytes left =
    subst (λ (k : ℕ). Fault (Once k) Limited (IsWhole row.1) tail_of (HasTail spell Form k) bytes left) (sym (eqb-true _ _ is)) f in
    lead_fault (kind ∷ []) bytes left g (behind_kind spell Form kind) (λ t ok. (ok.0, ap all_of (sym (same t)) ∙ ap all_of (sym (left_of t)) ∙ ok.1)))
    (λ is.
    let same : (t : List ℕ) → by_kind (row ∷ rows) kind t ≡ by_kind rows kind t = λ t. next_row (eqb kind row.0) (row.1 t) (by_kind rows kind t) is in
    kind_rows Once spell Form table rows all.1 none kind (λ t. left_of t ∙ same t) bytes left fits (ap all_of (sym (same bytes)) ∙ e))

-- whether names may come twice, by the first byte
abbrev pub OnceOf : (ℕ → Type 0) → List ℕ → Type 0
OnceOf Once [] = ⊥
OnceOf Once (kind ∷ bytes) = Once kind

pub rows_fault : {U Limited : Type 0} (Once : ℕ → Type 0) (spell : U → List ℕ) (Form : U → Type 0) (rows : List (ℕ × (List ℕ → Read U))) → AllByRecursion (RowPlaces Once Limited spell Form) rows → IsFront spell Form []
    → (bytes : List ℕ) (left : ℕ) → AreBytes bytes → all_of (by_rows rows bytes) ≡ Err left → Fault (OnceOf Once bytes) Limited (IsWhole (by_rows rows)) spell Form bytes left
rows_fault {Limited = Limited} Once spell Form rows all none [] left fits e =
    let is : 0 ≡ left = cc in subst (Fault ⊥ Limited (IsWhole (by_rows rows)) spell Form []) is (fault_cut [] none)
rows_fault {Limited = Limited} Once spell Form rows all none (kind ∷ bytes) left fits e =
    kind_rows Once spell Form rows rows all none kind (λ t. refl) bytes left (AreBytes-back (kind ∷ []) bytes fits) e

-- ---- places

begun_is : {Once Said Limited : Type 0} → (Once → Said) → (begun rest : List ℕ) → Begun Once Limited begun rest → IsBegun Said begun rest
begun_is said begun rest (has_nothing is) = nothing is
begun_is said begun rest (has_name once name more is spelled) = in_name (said once) name more is spelled
begun_is said begun rest (has_number limited ended few) = in_number ended few

not_front : {U : Type 0} (read : List ℕ → Read U) (spell : U → List ℕ) (Form : U → Type 0) → ((u : U) → Form u → all_of (read (spell u)) ≡ Ok u)
    → (front : List ℕ) → ((more : List ℕ) → IsWhole read (front ++ more) → ⊥) → IsFront spell Form front → ⊥
not_front read spell Form again front stops f = stops f.more (subst (IsWhole read) f.spelled (f.value, again f.value f.form))

number_is : {U : Type 0} (read : List ℕ → Read U) (spell : U → List ℕ) (Form : U → Type 0) → ((u : U) → Form u → all_of (read (spell u)) ≡ Ok u)
    → (front rest : List ℕ) (w : Width) → OutsideLimits (IsWhole read) spell Form front rest w → IsWrongNumber spell Form front rest w
number_is read spell Form again front rest w o = record {
  n = o.n;
  least = o.least;
  most = o.most;
  after = o.after;
  parts = o.parts;
  fits = o.fits;
  outside = o.outside;
  within = o.within;
  others = λ k fits out. not_front read spell Form again (front ++ to_be_bytes w k) (o.others k fits out);
}

stops_is : {U Once Limited Said : Type 0} (read : List ℕ → Read U) (spell : U → List ℕ) (Form : U → Type 0) → ((u : U) → Form u → all_of (read (spell u)) ≡ Ok u) → (Once → Said)
    → (front rest : List ℕ) → Stops Once Limited (IsWhole read) spell Form front rest → (rest ≡ []) ⊎ IsWrongField spell Form Said front rest
stops_is read spell Form again said front rest (at_end is) = inl is
stops_is read spell Form again said front rest (at_byte b after parts stops) = inr (wrong_byte b after parts (not_front read spell Form again (front ++ b ∷ []) stops))
stops_is read spell Form again said front rest (at_u16 limited o) = inr (wrong_u16 (number_is read spell Form again front rest w16 o))
stops_is read spell Form again said front rest (at_u32 limited o) = inr (wrong_u32 (number_is read spell Form again front rest w32 o))
stops_is read spell Form again said front rest (at_name once name after is parts stops) =
    inr (name_twice (said once) name after is parts (not_front read spell Form again (front ++ name_field name) stops))

-- the place of a fault, where what is spelled is read
pub wrong_place : {U Once Said Limited : Type 0} (read : List ℕ → Read U) (spell : U → List ℕ) (Form : U → Type 0) → ((u : U) → Form u → all_of (read (spell u)) ≡ Ok u)
    → (Once → Said) → (bytes : List ℕ) (left : ℕ) → Fault Once Limited (IsWhole read) spell Form bytes left → IsWrongPlace spell Form Said bytes (length bytes - left)
wrong_place read spell Form again said bytes left f = record {
  front = f.front;
  rest = f.rest;
  parts = f.parts;
  at_place = omega (arith, ap length f.parts, length-append f.front f.rest, f.is_left);
  whole = f.whole;
  begun = f.begun;
  before = f.before;
  is_begun = begun_is said f.begun f.rest f.is_begun;
  goes_on = f.goes_on;
  stops = stops_is read spell Form again said f.front f.rest f.stops;
}
