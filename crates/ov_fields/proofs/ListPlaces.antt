-- Wrong places of lists, options and names.
use Rattle.std.proofs.Common.{◌≡◌, ℕ, zero, suc, ◌-◌, ◌^◌, ◌<◌, Bool, true, false, IsTrue, List, [], ◌∷◌, ◌++◌, length, Option, Some, None, inl, Ok, Err, refl, sym, ap, subst, ◌∙◌, append_assoc, arith}
use Rattle.std.specs.Prelude.{IfSome}
use Rattle.std.specs.List.{flat_map, AllByRecursion}
use Rattle.ov_base.specs.Names.{is_letter_or_digit, is_name_byte, IsName}
use Rattle.ov_base.specs.declared.limits.TheConstants.{MAX_NAME_BYTES}
use Rattle.ov_fields.specs.Spelling.{name_field, token_field, optional, flag, counted, sized, IsToken}
use Rattle.ov_fields.specs.Fronts.{IsFront}
use Rattle.ov_fields.specs.Reading.{Read, ◌>>=◌, made, at_most, between, byte_at, bytes_at, many_at, counted_at, sized_at, optional_at, some_at, flag_at, one_of_at, name_at, text_at, token_at, token_of}
use Rattle.ov_fields.proofs.ReadingLaws.{AreBytes, AreBytes-back, bind_ok, bind_err, fails_first, fails_later, done, no_error, Reads, made_of, sized_by}
use Rattle.ov_fields.proofs.FieldLaws.{byte_reads, that_reads, wide16, wide32}
use Rattle.ov_fields.proofs.TagLaws.{flag_reads}
use Rattle.ov_fields.proofs.NameLaws.{one_each, is_text}
use Rattle.ov_fields.proofs.TestLaws.{between_of}
use Rattle.ov_fields.proofs.PlaceLaws.{AreBytes-nil, AreBytes-cons, AreBytes-both, Takes, Fault, HasPlaces, lead_fault}
use Rattle.ov_fields.proofs.JoinPlaces.{then_places, given_places, made_places, refit_places, same_places}
use Rattle.ov_fields.proofs.FieldPlaces.{byte_places, bytes_places, one_of_places}
use Rattle.ov_fields.proofs.LimitPlaces.{u16_places, u32_places, at_most_limits}

-- ---- a number of values

abbrev pub joined : {A : Type 0} → A × List A → List A
joined x = x.0 ∷ x.1

nested_in : {A B C : Type 0} (make : A × B → C) (a : A × List ℕ) (read : Read B)
    → (read >>= λ b. done (make (a.0, b.0), b.1)) ≡ made make (read >>= λ b. done ((a.0, b.0), b.1))
nested_in make a (Err left) = refl
nested_in make a (Ok b) = refl

nested : {A B C : Type 0} (make : A × B → C) (read : Read A) (next : List ℕ → Read B)
    → (read >>= λ a. next a.1 >>= λ b. Ok (make (a.0, b.0), b.1)) ≡ made make (read >>= λ a. next a.1 >>= λ b. Ok ((a.0, b.0), b.1))
nested make (Err left) next = refl
nested make (Ok a) next = nested_in make a (next a.1)

pub many_places : {A Once Limited : Type 0} {r : List ℕ → Read A} {s : A → List ℕ} {F : A → Type 0} {m : ℕ} → Reads r s F m → HasPlaces Once Limited r s F
    → (n : ℕ) → HasPlaces Once Limited (many_at r n) (flat_map s) (λ values. AllByRecursion F values × (length values ≡ n))
unfolding many_at
many_places R P zero = record {
  value = [];
  form = (tt, refl);
  bytes = AreBytes-nil;
  fault = λ bytes left fits e. absurd cc;
}
many_places {r = r} {s = s} {F = F} R P (suc n) =
    same_places (λ bytes. nested joined (r bytes) (many_at r n))
    (made_places joined (flat_map s) (λ values. AllByRecursion F values × (length values ≡ suc n)) (then_places R P (many_places R P n))
    (λ x form. ((form.0, form.1.0), ap suc form.1.1)) (λ x form. refl))

pub counted_places : {A Once Limited : Type 0} {r : List ℕ → Read A} {s : A → List ℕ} {F : A → Type 0} {m : ℕ} (most : ℕ) → most < 2 ^ 16 → Limited → Reads r s F m → HasPlaces Once Limited r s F
    → HasPlaces Once Limited (counted_at most r) (counted s) (λ values. ((length values < 2 ^ 16) × IsTrue (at_most most (length values))) × AllByRecursion F values)
unfolding counted_at
counted_places {r = r} {s = s} {F = F} most small limited R P =
    given_places (many_at r) (flat_map s) (AllByRecursion F) length (that_reads wide16 (at_most most))
    (u16_places (at_most most) 0 most limited (at_most_limits most (2 ^ 16) small))
    (λ n h. many_places R P n)

-- ---- bytes behind their number

pub sized_places : {Once Limited : Type 0} (most : ℕ) → most < 2 ^ 32 → Limited
    → HasPlaces Once Limited (sized_at most) sized (λ bytes. ((length bytes < 2 ^ 32) × IsTrue (at_most most (length bytes))) × Unit {0})
unfolding sized_at
sized_places most small limited =
    given_places bytes_at (λ bytes. bytes) (λ bytes. Unit {0}) length (that_reads wide32 (at_most most))
    (u32_places (at_most most) 0 most limited (at_most_limits most (2 ^ 32) small))
    (λ n h. refit_places (sized_by (λ bytes. Unit {0}) length n) (bytes_places n) (λ bytes is. (tt, is)))

-- ---- what follows a flag

front_some : {A : Type 0} {s : A → List ℕ} {F : A → Type 0} (w : List ℕ) → IsFront s F w → IsFront (optional s) (λ o. IfSome o F) (1 ∷ w)
front_some w f = record { value = Some f.value; more = f.more; form = f.form; spelled = ap (λ (t : List ℕ). 1 ∷ t) f.spelled; bytes = f.bytes }

abbrev every_flag : List Bool
every_flag = false ∷ true ∷ []

abbrev flag_field : Bool → List ℕ
flag_field b = flag b ∷ []

front_told : {A : Type 0} (s : A → List ℕ) (F : A → Type 0) (a : A) → F a → AreBytes (s a) → (b : Bool) (w more : List ℕ) → flag_field b ≡ w ++ more → AreBytes more → IsFront (optional s) (λ o. IfSome o F) w
front_told s F a form bytes true w more e fits = record {
  value = Some a;
  more = more ++ s a;
  form = form;
  spelled = ap (λ (t : List ℕ). t ++ s a) e ∙ append_assoc w more (s a);
  bytes = (AreBytes-both more (s a) fits bytes).each;
}
front_told s F a form bytes false w more e fits = record { value = None; more = more; form = tt; spelled = e; bytes = fits.each }

some_behind : {A Once Limited : Type 0} (r : List ℕ → Read A) (s : A → List ℕ) (F : A → Type 0) → HasPlaces Once Limited r s F
    → (b : Bool) (bytes : List ℕ) (left : ℕ) → AreBytes bytes → some_at b r bytes ≡ Err left → Fault Once Limited (Takes (optional_at r)) (optional s) (λ o. IfSome o F) (flag_field b ++ bytes) left
unfolding optional_at one_of_at
some_behind r s F P true bytes left fits e =
    lead_fault (1 ∷ []) bytes left (P.fault bytes left fits (no_error (r bytes) (made_of Some) left e)) front_some
    (λ t ok. let a = bind_ok (r t) (λ a. done (made_of Some a)) ok.0 ok.1 in (a.0, a.1))
some_behind r s F P false bytes left fits e = absurd cc

optional_fault : {A Once Limited : Type 0} (r : List ℕ → Read A) (s : A → List ℕ) (F : A → Type 0) → HasPlaces Once Limited r s F
    → (bytes : List ℕ) (left : ℕ) → AreBytes bytes → optional_at r bytes ≡ Err left → Fault Once Limited (Takes (optional_at r)) (optional s) (λ o. IfSome o F) bytes left
unfolding optional_at
optional_fault {A = A} {Once = Once} {Limited = Limited} r s F P bytes left fits e =
    elim (bind_err (flag_at bytes) (λ there. some_at there.0 r there.1) left e) [
      | fails_first bad ↦
          lead_fault [] bytes left ((one_of_places flag every_flag false (inl refl) (omega arith)).fault bytes left fits bad)
          (λ w f. front_told s F P.value P.form P.bytes f.value w f.more f.spelled (record { each = f.bytes }))
          (λ t ok. let b = bind_ok (flag_at t) (λ there. some_at there.0 r there.1) ok.0 ok.1 in (b.0, b.1))
      | fails_later b was more ↦
          let one = (flag_reads every_flag).takes bytes b fits was in
          subst (λ (l : List ℕ). Fault Once Limited (Takes (optional_at r)) (optional s) (λ (o : Option A). IfSome o F) l left) (sym one.1)
          (some_behind r s F P b.0 b.1 left (AreBytes-back (flag b.0 ∷ []) b.1 (subst AreBytes one.1 fits)) more)
    ]

pub optional_places : {A Once Limited : Type 0} {r : List ℕ → Read A} {s : A → List ℕ} {F : A → Type 0} → HasPlaces Once Limited r s F → HasPlaces Once Limited (optional_at r) (optional s) (λ o. IfSome o F)
optional_places {r = r} {s = s} {F = F} P = record {
  value = None;
  form = tt;
  bytes = AreBytes-cons 0 [] (omega arith) AreBytes-nil;
  fault = optional_fault r s F P;
}

-- ---- names and tokens

abbrev TextForm : ℕ → List ℕ → Type 0
TextForm more text = IsName text × (length text ≡ suc more)

text_places : {Once Limited : Type 0} (more : ℕ) → more < MAX_NAME_BYTES → HasPlaces Once Limited (text_at more) (λ text. text) (TextForm more)
text_places more small =
    same_places (λ bytes. nested joined (byte_at is_letter_or_digit bytes) (many_at (byte_at is_name_byte) more))
    (made_places joined (λ text. text) (TextForm more)
    (then_places (byte_reads is_letter_or_digit) (byte_places is_letter_or_digit 97 (omega arith) refl) (many_places (byte_reads is_name_byte) (byte_places is_name_byte 97 (omega arith) refl) more))
    (λ x form. (is_text x.0 x.1 form.0 (omega (arith, form.1.1)) form.1.0, ap suc form.1.1)) (λ x form. ap (λ (t : List ℕ). x.0 ∷ t) (one_each x.1)))

pub name_places : {Once Limited : Type 0} → HasPlaces Once Limited name_at name_field IsName
unfolding name_at
name_places =
    refit_places IsName
    (given_places (λ n. text_at (n - 1)) (λ text. text) IsName length (byte_reads (between 1 MAX_NAME_BYTES)) (byte_places (between 1 MAX_NAME_BYTES) 1 (omega arith) refl)
    (λ n h.
    let b = between_of 1 MAX_NAME_BYTES n h in
    refit_places (sized_by IsName length n) (text_places (n - 1) (omega (arith, b.0, b.1))) (λ text form. (form.0, omega (arith, form.1, b.0)))))
    (λ name form. form.1)

pub token_places : {Once Limited : Type 0} → HasPlaces Once Limited token_at token_field IsToken
token_places = made_places token_of token_field IsToken (bytes_places 32) (λ bytes is. is) (λ bytes is. refl)
