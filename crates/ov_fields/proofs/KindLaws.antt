-- Values of several kinds: a kind byte, and then what stands for a value of this kind.
use Rattle.std.proofs.Common.{◌≡◌, ℕ, ◌+◌, ◌≤◌, List, [], ◌∷◌, ◌++◌, length, Ok, Err, ap, subst, ◌∙◌, arith}
use Rattle.ov_fields.specs.Reading.{Read, made}
use Rattle.ov_fields.proofs.ReadingLaws.{AreBytes, AreBytes-back, bind_ok, done, ok_is, no_error, Reads, made_of}

-- how the values of one kind are made of what is read behind the kind byte
pub record IsKind {A U : Type 0} (s : A → List ℕ) (F : A → Type 0) (spell : U → List ℕ) (Form : U → Type 0) (kind : ℕ) (make : A → U) : Type 0 where
  pub form : (a : A) → F a → Form (make a)
  pub spelled : (a : A) → kind ∷ s a ≡ spell (make a)

pub kind_takes : {A U : Type 0} {r : List ℕ → Read A} {s : A → List ℕ} {F : A → Type 0} {m : ℕ} {spell : U → List ℕ} {Form : U → Type 0} (kind : ℕ) (make : A → U)
    → Reads r s F m → IsKind s F spell Form kind make
    → (bytes : List ℕ) (x : U × List ℕ) → AreBytes (kind ∷ bytes) → made make (r bytes) ≡ Ok x → Form x.0 × (kind ∷ bytes ≡ spell x.0 ++ x.1)
kind_takes {U = U} {r = r} {spell = spell} {Form = Form} kind make R K bytes x fits e =
    let a = bind_ok (r bytes) (λ a. done (made_of make a)) x e in
    let t = R.takes bytes a.0 (AreBytes-back (kind ∷ []) bytes fits) a.1 in
    subst (λ (y : U × List ℕ). Form y.0 × (kind ∷ bytes ≡ spell y.0 ++ y.1)) (ok_is (made_of make a.0) x a.2)
    (K.form a.0.0 t.0, ap (λ (l : List ℕ). kind ∷ l) t.1 ∙ ap (λ (l : List ℕ). l ++ a.0.1) (K.spelled a.0.0))

pub kind_again : {A U : Type 0} {r : List ℕ → Read A} {s : A → List ℕ} {F : A → Type 0} {m : ℕ} (make : A → U)
    → Reads r s F m → (a : A) (rest : List ℕ) → F a → made make (r (s a ++ rest)) ≡ Ok (make a, rest)
kind_again make R a rest fits = ap (made make) (R.again a rest fits)

pub kind_near : {A U : Type 0} {r : List ℕ → Read A} {s : A → List ℕ} {F : A → Type 0} {m : ℕ} (kind : ℕ) (make : A → U) (most : ℕ)
    → Reads r s F m → 1 + m ≤ most → (bytes : List ℕ) (left : ℕ) → AreBytes (kind ∷ bytes) → made make (r bytes) ≡ Err left
    → (left ≤ length (kind ∷ bytes)) × (length (kind ∷ bytes) ≤ left + most)
kind_near {r = r} kind make most R le bytes left fits e =
    let k = R.near bytes left (AreBytes-back (kind ∷ []) bytes fits) (no_error (r bytes) (made_of make) left e) in
    (omega (arith, k.0), omega (arith, k.1))

-- no kind has this byte
pub kind_none : (kind : ℕ) (bytes : List ℕ) (left most : ℕ) → 1 ≤ most → length (kind ∷ bytes) ≡ left
    → (left ≤ length (kind ∷ bytes)) × (length (kind ∷ bytes) ≤ left + most)
kind_none kind bytes left most le e = (omega arith, omega arith)
