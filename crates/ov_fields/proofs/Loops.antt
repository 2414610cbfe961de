-- Reading values one after the other, as a loop does.
use Rattle.std.proofs.Common.{◌≡◌, ℕ, suc, ◌-◌, ◌+◌, ◌≤◌, ◌<◌, List, [], ◌∷◌, ◌++◌, Ok, Err, Option, Some, None, refl, sym, ap, ◌∙◌, append_assoc, arith}
use Rattle.std.specs.Prelude.{IfSome}
use Rattle.std.proofs.lemmas.List.{append-nil}
use Rattle.ov_fields.specs.Reading.{Read, ◌>>=◌, many_at}

-- what was read before, and what is still read
abbrev pub with_front : {A : Type 0} → List A → Read (List A) → Read (List A)
with_front front read = read >>= λ x. Ok (front ++ x.0, x.1)

-- one value more in front
pub regroup : {A : Type 0} (front : List A) (a : A) (read : Read (List A)) → with_front front (read >>= λ x. Ok (a ∷ x.0, x.1)) ≡ with_front (front ++ a ∷ []) read
regroup {A = A} front a (Ok x) = ap (λ (l : List A). Ok (l, x.1)) (simp append_assoc)
regroup front a (Err left) = refl

-- one more value was read
pub goes_on : {A : Type 0} (r : List ℕ → Read A) (front : List A) (count i : ℕ) (bytes : List ℕ) (a : A) (after : List ℕ) (total : Read (List A)) → i < count → r bytes ≡ Ok (a, after)
    → with_front front (many_at r (count - i) bytes) ≡ total → with_front (front ++ a ∷ []) (many_at r (count - (i + 1)) after) ≡ total
unfolding many_at
goes_on r front count i bytes a after total lt h so_far =
    let k : count - i ≡ suc (count - (i + 1)) = omega arith in
    let one : with_front front (many_at r (count - i) bytes) ≡ with_front (front ++ a ∷ []) (many_at r (count - (i + 1)) after) = rw (k, h) (regroup front a (many_at r (count - (i + 1)) after)) in
    sym one ∙ so_far

-- the next value is wrong, so the list is
pub ends : {A : Type 0} (r : List ℕ → Read A) (place : Option ℕ) (front : List A) (count i : ℕ) (bytes : List ℕ) (total : Read (List A)) → i < count → IfSome place (λ left. r bytes ≡ Err left)
    → with_front front (many_at r (count - i) bytes) ≡ total → IfSome place (λ left. total ≡ Err left)
unfolding many_at
ends r None front count i bytes total lt h so_far = tt
ends r (Some left) front count i bytes total lt h so_far =
    let k : count - i ≡ suc (count - (i + 1)) = omega arith in
    let one : with_front front (many_at r (count - i) bytes) ≡ Err left = rw (k, h) refl in
    sym so_far ∙ one

-- all were read
pub is_done : {A : Type 0} (r : List ℕ → Read A) (front : List A) (count i : ℕ) (bytes : List ℕ) (total : Read (List A)) → count ≤ i → with_front front (many_at r (count - i) bytes) ≡ total → total ≡ Ok (front, bytes)
unfolding many_at
is_done {A = A} r front count i bytes total le so_far =
    let k : count - i ≡ 0 = omega arith in
    let one : with_front front (many_at r (count - i) bytes) ≡ Ok (front, bytes) = rw k (ap (λ (l : List A). Ok (l, bytes)) (append-nil front)) in
    sym so_far ∙ one
