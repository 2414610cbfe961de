-- Tables of kinds: each row reads exactly what its kind byte and the bytes behind it spell.
use Rattle.std.proofs.Common.{◌≡◌, ℕ, suc, ◌+◌, ◌≤◌, Bool, true, false, cond, eqb, List, [], ◌∷◌, length, Result, Ok, Err, refl, sym, ap, subst, ◌∙◌, arith}
use Rattle.std.specs.List.{AllByRecursion}
use Rattle.std.proofs.lemmas.Bool.{eqb-true}
use Rattle.ov_fields.specs.Reading.{Read, made, all_of, making, by_kind, by_rows}
use Rattle.ov_fields.proofs.ReadingLaws.{AreBytes, AreBytes-back, Reads}
use Rattle.ov_fields.proofs.WholeLaws.{all_takes, all_again, all_near}
use Rattle.ov_fields.proofs.KindLaws.{IsKind}

-- what is made of a value, or the fault
abbrev pub made_whole : {A B : Type 0} → (A → B) → Result A ℕ → Result B ℕ
made_whole make (Ok a) = Ok (make a)
made_whole make (Err left) = Err left

ended_made : {A B : Type 0} (b : Bool) (make : A → B) (a : A) (left : ℕ) → cond b (Ok (make a)) (Err left) ≡ made_whole make (cond b (Ok a) (Err left))
ended_made true make a left = refl
ended_made false make a left = refl

pub all_made : {A B : Type 0} (make : A → B) (read : Read A) → all_of (made make read) ≡ made_whole make (all_of read)
all_made make (Ok x) = ended_made (eqb (length x.1) 0) make x.0 (length x.1)
all_made make (Err left) = refl

pub made_ok : {A B : Type 0} (make : A → B) (r : Result A ℕ) (b : B) → made_whole make r ≡ Ok b → (a : A) × (r ≡ Ok a) × (make a ≡ b)
made_ok make (Ok a) b e = (a, refl, cc)
made_ok make (Err left) b e = absurd cc

pub made_err : {A B : Type 0} (make : A → B) (r : Result A ℕ) (left : ℕ) → made_whole make r ≡ Err left → r ≡ Err left
made_err make (Ok a) left e = absurd cc
made_err make (Err other) left e = cc

-- a row of a table
pub record RowReads {U : Type 0} (spell : U → List ℕ) (Form : U → Type 0) (most : ℕ) (row : ℕ × (List ℕ → Read U)) : Type 0 where
  pub takes : (bytes : List ℕ) (u : U) → AreBytes bytes → all_of (row.1 bytes) ≡ Ok u → Form u × (row.0 ∷ bytes ≡ spell u)
  pub near : (bytes : List ℕ) (left : ℕ) → AreBytes bytes → all_of (row.1 bytes) ≡ Err left → (left ≤ length bytes) × (length bytes ≤ left + most)

pub row_reads : {A U : Type 0} {r : List ℕ → Read A} {s : A → List ℕ} {F : A → Type 0} {m : ℕ} {spell : U → List ℕ} {Form : U → Type 0} (kind : ℕ) (make : A → U) (most : ℕ)
    → Reads r s F m → m ≤ most → IsKind s F spell Form kind make → RowReads spell Form most (kind, making make r)
row_reads {U = U} {r = r} {spell = spell} {Form = Form} kind make most R le K = record {
  takes = λ bytes u fits e.
      let a = made_ok make (all_of (r bytes)) u (sym (all_made make (r bytes)) ∙ e) in
      let t = all_takes R bytes a.0 fits a.1 in
      subst (λ (v : U). Form v × (kind ∷ bytes ≡ spell v)) a.2 (K.form a.0 t.0, ap (λ (l : List ℕ). kind ∷ l) t.1 ∙ K.spelled a.0);
  near = λ bytes left fits e.
      let k = all_near R bytes left fits (made_err make (all_of (r bytes)) left (sym (all_made make (r bytes)) ∙ e)) in
      (k.0, omega (arith, k.1));
}

pub row_again : {A U : Type 0} {r : List ℕ → Read A} {s : A → List ℕ} {F : A → Type 0} {m : ℕ} (make : A → U)
    → Reads r s F m → (a : A) → F a → all_of (making make r (s a)) ≡ Ok (make a)
row_again {r = r} {s = s} make R a fits = all_made make (r (s a)) ∙ ap (made_whole make) (all_again R a fits)

-- ---- a table

row_or_next : {U : Type 0} (b : Bool) (x y : Read U) (P : Read U → Type 0) → ((b ≡ true) → P x) → ((b ≡ false) → P y) → P (cond b x y)
row_or_next true x y P one two = one refl
row_or_next false x y P one two = two refl

kind_takes : {U : Type 0} (spell : U → List ℕ) (Form : U → Type 0) (most : ℕ) (rows : List (ℕ × (List ℕ → Read U)))
    → AllByRecursion (RowReads spell Form most) rows → (kind : ℕ) (bytes : List ℕ) (u : U) → AreBytes bytes → all_of (by_kind rows kind bytes) ≡ Ok u → Form u × (kind ∷ bytes ≡ spell u)
kind_takes spell Form most [] all kind bytes u fits e = absurd cc
kind_takes {U = U} spell Form most (row ∷ rows) all kind bytes u fits e =
    row_or_next (eqb kind row.0) (row.1 bytes) (by_kind rows kind bytes) (λ (r : Read U). all_of r ≡ Ok u → Form u × (kind ∷ bytes ≡ spell u))
    (λ is same. let t = all.0.takes bytes u fits same in (t.0, ap (λ (k : ℕ). k ∷ bytes) (eqb-true _ _ is) ∙ t.1))
    (λ other same. kind_takes spell Form most rows all.1 kind bytes u fits same) e

kind_near : {U : Type 0} (spell : U → List ℕ) (Form : U → Type 0) (most : ℕ) (rows : List (ℕ × (List ℕ → Read U)))
    → AllByRecursion (RowReads spell Form most) rows → (kind : ℕ) (bytes : List ℕ) (left : ℕ) → AreBytes bytes → all_of (by_kind rows kind bytes) ≡ Err left
    → (left ≤ suc (length bytes)) × (suc (length bytes) ≤ left + (1 + most))
kind_near spell Form most [] all kind bytes left fits e = let is : suc (length bytes) ≡ left = cc in (omega arith, omega arith)
kind_near {U = U} spell Form most (row ∷ rows) all kind bytes left fits e =
    row_or_next (eqb kind row.0) (row.1 bytes) (by_kind rows kind bytes) (λ (r : Read U). all_of r ≡ Err left → (left ≤ suc (length bytes)) × (suc (length bytes) ≤ left + (1 + most)))
    (λ is same. let k = all.0.near bytes left fits same in (omega (arith, k.0), omega (arith, k.1)))
    (λ other same. kind_near spell Form most rows all.1 kind bytes left fits same) e

-- what the table reads is spelled so
pub rows_take : {U : Type 0} (spell : U → List ℕ) (Form : U → Type 0) (most : ℕ) (rows : List (ℕ × (List ℕ → Read U)))
    → AllByRecursion (RowReads spell Form most) rows → (bytes : List ℕ) (u : U) → AreBytes bytes → all_of (by_rows rows bytes) ≡ Ok u → Form u × (bytes ≡ spell u)
rows_take spell Form most rows all [] u fits e = absurd cc
rows_take spell Form most rows all (kind ∷ bytes) u fits e = kind_takes spell Form most rows all kind bytes u (AreBytes-back (kind ∷ []) bytes fits) e

-- a wrong byte is near
pub rows_near : {U : Type 0} (spell : U → List ℕ) (Form : U → Type 0) (most : ℕ) (rows : List (ℕ × (List ℕ → Read U)))
    → AllByRecursion (RowReads spell Form most) rows → (bytes : List ℕ) (left : ℕ) → AreBytes bytes → all_of (by_rows rows bytes) ≡ Err left
    → (left ≤ length bytes) × (length bytes ≤ left + (1 + most))
rows_near spell Form most rows all [] left fits e = let is : 0 ≡ left = cc in (omega arith, omega arith)
rows_near spell Form most rows all (kind ∷ bytes) left fits e = kind_near spell Form most rows all kind bytes left (AreBytes-back (kind ∷ []) bytes fits) e
