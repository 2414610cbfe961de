-- Wrong places of readers that are put together: each way of doing so keeps them.
use Rattle.std.proofs.Common.{◌≡◌, ℕ, List, [], ◌++◌, Err, refl, sym, ap, subst, ◌∙◌, append_assoc}
use Rattle.ov_fields.specs.Fronts.{IsFront}
use Rattle.ov_fields.specs.Reading.{Read, ◌>>=◌, ◌>>◌, made}
use Rattle.ov_fields.proofs.ReadingLaws.{AreBytes, AreBytes-back, bind_ok, bind_err, fails_first, fails_later, done, no_error, paired, made_of, Reads, sized_by}
use Rattle.ov_fields.proofs.PlaceLaws.{AreBytes-both, Takes, Fault, HasPlaces, lead_fault}

front_then : {A B : Type 0} {s : A → List ℕ} {F : A → Type 0} (s' : B → List ℕ) (F' : B → Type 0) (b : B) → F' b → AreBytes (s' b)
    → (w : List ℕ) → IsFront s F w → IsFront (λ (x : A × B). s x.0 ++ s' x.1) (λ (x : A × B). F x.0 × F' x.1) w
front_then s' F' b form bytes w f = record {
  value = (f.value, b);
  more = f.more ++ s' b;
  form = (f.form, form);
  spelled = ap (λ (t : List ℕ). t ++ s' b) f.spelled ∙ append_assoc w f.more (s' b);
  bytes = (AreBytes-both f.more (s' b) (record { each = f.bytes }) bytes).each;
}

then_front : {A B : Type 0} (s : A → List ℕ) (F : A → Type 0) {s' : B → List ℕ} {F' : B → Type 0} (a : A) → F a
    → (w : List ℕ) → IsFront s' F' w → IsFront (λ (x : A × B). s x.0 ++ s' x.1) (λ (x : A × B). F x.0 × F' x.1) (s a ++ w)
then_front s F a form w f = record {
  value = (a, f.value);
  more = f.more;
  form = (form, f.form);
  spelled = ap (λ (t : List ℕ). s a ++ t) f.spelled ∙ sym (append_assoc (s a) w f.more);
  bytes = f.bytes;
}

then_fault : {A B Once Limited : Type 0} (r : List ℕ → Read A) (s : A → List ℕ) (F : A → Type 0) (m : ℕ) (r' : List ℕ → Read B) (s' : B → List ℕ) (F' : B → Type 0)
    → Reads r s F m → HasPlaces Once Limited r s F → HasPlaces Once Limited r' s' F'
    → (bytes : List ℕ) (left : ℕ) → AreBytes bytes → (r >> r') bytes ≡ Err left
    → Fault Once Limited (Takes (r >> r')) (λ (x : A × B). s x.0 ++ s' x.1) (λ (x : A × B). F x.0 × F' x.1) bytes left
then_fault {A = A} {B = B} {Once = Once} {Limited = Limited} r s F m r' s' F' R P P' bytes left fits e =
    elim (bind_err (r bytes) (λ a. r' a.1 >>= λ b. done (paired a.0 b)) left e) [
      | fails_first bad ↦
          lead_fault [] bytes left (P.fault bytes left fits bad) (front_then s' F' P'.value P'.form P'.bytes)
          (λ t ok. let a = bind_ok (r t) (λ a. r' a.1 >>= λ b. done (paired a.0 b)) ok.0 ok.1 in (a.0, a.1))
      | fails_later a was more ↦
          let one = R.takes bytes a fits was in
          let f = P'.fault a.1 left (AreBytes-back (s a.0) a.1 (subst AreBytes one.1 fits)) (no_error (r' a.1) (paired a.0) left more) in
          subst (λ (l : List ℕ). Fault Once Limited (Takes (r >> r')) (λ (x : A × B). s x.0 ++ s' x.1) (λ (x : A × B). F x.0 × F' x.1) l left) (sym one.1)
          (lead_fault (s a.0) a.1 left f (then_front s F a.0 one.0)
          (λ t ok.
          let k = ap (λ (x : Read A). x >>= λ a. r' a.1 >>= λ b. done (paired a.0 b)) (sym (R.again a.0 t one.0)) ∙ ok.1 in
          let b = bind_ok (r' t) (λ b. done (paired a.0 b)) ok.0 k in (b.0, b.1)))
    ]

pub then_places : {A B Once Limited : Type 0} {r : List ℕ → Read A} {s : A → List ℕ} {F : A → Type 0} {m : ℕ} {r' : List ℕ → Read B} {s' : B → List ℕ} {F' : B → Type 0}
    → Reads r s F m → HasPlaces Once Limited r s F → HasPlaces Once Limited r' s' F' → HasPlaces Once Limited (r >> r') (λ (x : A × B). s x.0 ++ s' x.1) (λ (x : A × B). F x.0 × F' x.1)
then_places {r = r} {s = s} {F = F} {m = m} {r' = r'} {s' = s'} {F' = F'} R P P' = record {
  value = (P.value, P'.value);
  form = (P.form, P'.form);
  bytes = AreBytes-both (s P.value) (s' P'.value) P.bytes P'.bytes;
  fault = then_fault r s F m r' s' F' R P P';
}

-- ---- a field that tells the size of the one after it

front_given : {B : Type 0} {s : ℕ → List ℕ} {F : ℕ → Type 0} {s' : B → List ℕ} {F' : B → Type 0} (size : B → ℕ)
    → ((n : ℕ) → F n → (b : B) × sized_by F' size n b × AreBytes (s' b)) → (w : List ℕ) → IsFront s F w → IsFront (λ (b : B). s (size b) ++ s' b) (λ (b : B). F (size b) × F' b) w
front_given {s = s} {F = F} {s' = s'} size some w f =
    let b = some f.value f.form in
    record {
      value = b.0;
      more = f.more ++ s' b.0;
      form = (subst F (sym b.1.1) f.form, b.1.0);
      spelled = ap (λ (n : ℕ). s n ++ s' b.0) b.1.1 ∙ ap (λ (t : List ℕ). t ++ s' b.0) f.spelled ∙ append_assoc w f.more (s' b.0);
      bytes = (AreBytes-both f.more (s' b.0) (record { each = f.bytes }) b.2).each;
    }

given_front : {B : Type 0} (s : ℕ → List ℕ) (F : ℕ → Type 0) {s' : B → List ℕ} {F' : B → Type 0} (size : B → ℕ) (n : ℕ) → F n
    → (w : List ℕ) → IsFront s' (sized_by F' size n) w → IsFront (λ (b : B). s (size b) ++ s' b) (λ (b : B). F (size b) × F' b) (s n ++ w)
given_front s F {s' = s'} size n form w f = record {
  value = f.value;
  more = f.more;
  form = (subst F (sym f.form.1) form, f.form.0);
  spelled = ap (λ (k : ℕ). s k ++ s' f.value) f.form.1 ∙ ap (λ (t : List ℕ). s n ++ t) f.spelled ∙ sym (append_assoc (s n) w f.more);
  bytes = f.bytes;
}

given_fault : {B Once Limited : Type 0} (r : List ℕ → Read ℕ) (s : ℕ → List ℕ) (F : ℕ → Type 0) (m : ℕ) (f : ℕ → List ℕ → Read B) (s' : B → List ℕ) (F' : B → Type 0) (size : B → ℕ)
    → Reads r s F m → HasPlaces Once Limited r s F → ((n : ℕ) → F n → HasPlaces Once Limited (f n) s' (sized_by F' size n))
    → (bytes : List ℕ) (left : ℕ) → AreBytes bytes → (r bytes >>= λ n. f n.0 n.1) ≡ Err left
    → Fault Once Limited (Takes (λ bytes. r bytes >>= λ n. f n.0 n.1)) (λ (b : B). s (size b) ++ s' b) (λ (b : B). F (size b) × F' b) bytes left
given_fault {B = B} {Once = Once} {Limited = Limited} r s F m f s' F' size R P P' bytes left fits e =
    elim (bind_err (r bytes) (λ n. f n.0 n.1) left e) [
      | fails_first bad ↦
          lead_fault [] bytes left (P.fault bytes left fits bad) (front_given size (λ n form. let p = P' n form in (p.value, p.form, p.bytes)))
          (λ t ok. let a = bind_ok (r t) (λ n. f n.0 n.1) ok.0 ok.1 in (a.0, a.1))
      | fails_later a was more ↦
          let one = R.takes bytes a fits was in
          let g = (P' a.0 one.0).fault a.1 left (AreBytes-back (s a.0) a.1 (subst AreBytes one.1 fits)) more in
          subst (λ (l : List ℕ). Fault Once Limited (Takes (λ bytes. r bytes >>= λ n. f n.0 n.1)) (λ (b : B). s (size b) ++ s' b) (λ (b : B). F (size b) × F' b) l left) (sym one.1)
          (lead_fault (s a.0) a.1 left g (given_front s F size a.0 one.0)
          (λ t ok. (ok.0, ap (λ (x : Read ℕ). x >>= λ n. f n.0 n.1) (sym (R.again a.0 t one.0)) ∙ ok.1)))
    ]

pub given_places : {B Once Limited : Type 0} {r : List ℕ → Read ℕ} {s : ℕ → List ℕ} {F : ℕ → Type 0} {m : ℕ} (f : ℕ → List ℕ → Read B) (s' : B → List ℕ) (F' : B → Type 0) (size : B → ℕ)
    → Reads r s F m → HasPlaces Once Limited r s F → ((n : ℕ) → F n → HasPlaces Once Limited (f n) s' (sized_by F' size n))
    → HasPlaces Once Limited (λ bytes. r bytes >>= λ n. f n.0 n.1) (λ (b : B). s (size b) ++ s' b) (λ (b : B). F (size b) × F' b)
given_places {r = r} {s = s} {F = F} {m = m} f s' F' size R P P' =
    let p = P' P.value P.form in
    record {
      value = p.value;
      form = (subst F (sym p.form.1) P.form, p.form.0);
      bytes = subst (λ (n : ℕ). AreBytes (s n ++ s' p.value)) (sym p.form.1) (AreBytes-both (s P.value) (s' p.value) P.bytes p.bytes);
      fault = given_fault r s F m f s' F' size R P P';
    }

-- ---- what is made of a value, and the same said in other words

front_made : {A B : Type 0} {s : A → List ℕ} {F : A → Type 0} {s' : B → List ℕ} {F' : B → Type 0} (make : A → B)
    → ((a : A) → F a → F' (make a)) → ((a : A) → F a → s a ≡ s' (make a)) → (w : List ℕ) → IsFront s F w → IsFront s' F' w
front_made make form spelled w f = record {
  value = make f.value;
  more = f.more;
  form = form f.value f.form;
  spelled = sym (spelled f.value f.form) ∙ f.spelled;
  bytes = f.bytes;
}

pub made_places : {A B Once Limited : Type 0} {r : List ℕ → Read A} {s : A → List ℕ} {F : A → Type 0} (make : A → B) (s' : B → List ℕ) (F' : B → Type 0)
    → HasPlaces Once Limited r s F → ((a : A) → F a → F' (make a)) → ((a : A) → F a → s a ≡ s' (make a)) → HasPlaces Once Limited (λ bytes. made make (r bytes)) s' F'
made_places {r = r} make s' F' P form spelled = record {
  value = make P.value;
  form = form P.value P.form;
  bytes = subst AreBytes (spelled P.value P.form) P.bytes;
  fault = λ bytes left fits e.
      lead_fault [] bytes left (P.fault bytes left fits (no_error (r bytes) (made_of make) left e)) (front_made make form spelled)
      (λ t ok. let a = bind_ok (r t) (λ a. done (made_of make a)) ok.0 ok.1 in (a.0, a.1));
}

pub refit_places : {A Once Limited : Type 0} {r : List ℕ → Read A} {s : A → List ℕ} {F : A → Type 0} (G : A → Type 0)
    → HasPlaces Once Limited r s F → ((a : A) → F a → G a) → HasPlaces Once Limited r s G
refit_places G P form = record {
  value = P.value;
  form = form P.value P.form;
  bytes = P.bytes;
  fault = λ bytes left fits e. lead_fault [] bytes left (P.fault bytes left fits e) (front_made (λ a. a) form (λ a fits. refl)) (λ t ok. ok);
}

-- two readers that read the same
pub same_places : {A Once Limited : Type 0} {r r' : List ℕ → Read A} {s : A → List ℕ} {F : A → Type 0}
    → ((bytes : List ℕ) → r' bytes ≡ r bytes) → HasPlaces Once Limited r s F → HasPlaces Once Limited r' s F
same_places same P = record {
  value = P.value;
  form = P.form;
  bytes = P.bytes;
  fault = λ bytes left fits e.
      lead_fault [] bytes left (P.fault bytes left fits (sym (same bytes) ∙ e)) (λ w f. f) (λ t ok. (ok.0, sym (same t) ∙ ok.1));
}
