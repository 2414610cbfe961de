-- Frames that are put in two pieces.
use Rattle.std.proofs.Common.{◌≡◌, ℕ, ◌+◌, Bool, true, false, List, ◌++◌, length, take, refl, sym, ◌∙◌, subst, Option, Ok, Err, arith}
use Rattle.std.specs.Prelude.{Result, nat_le}
use Rattle.std.specs.Io.KnownBytes.{Appends}
use Rattle.std.proofs.KnownBytes.{Appends-trans}
use Rattle.std.proofs.Math.Seq.{take-append-add, take-append_seam}
use Rattle.std.proofs.lemmas.List.{take-append-le, take_all}
use Rattle.std.proofs.lemmas.Bool.Decides.{nat_tests}
use Rattle.ov_io.specs.Putting.{Puts}

-- a front of the first piece is a front of both
front_of_first : (xs ys : List ℕ) (n : ℕ) → (m : ℕ) × (take m (xs ++ ys) ≡ take n xs)
front_of_first xs ys n = by_test (nat_le n (length xs)) refl where
  by_test : (b : Bool) → nat_le n (length xs) ≡ b → (m : ℕ) × (take m (xs ++ ys) ≡ take n xs)
  by_test true is = (n, take-append-le n xs ys (grind (arith, nat_tests)))
  by_test false is = (length xs, take-append_seam xs ys ∙ sym (take_all n xs (grind (arith, nat_tests))))

pub put_first : (old now : Option (List ℕ)) (xs ys : List ℕ) → ((n : ℕ) × Appends old now (take n xs))
    → (n : ℕ) × Appends old now (take n (xs ++ ys))
put_first old now xs ys (n, front) =
    let f = front_of_first xs ys n in (f.0, subst (Appends old now) (sym f.1) front)

pub put_both : {E : Type 0} (old mid now : Option (List ℕ)) (result : Result (Unit {0}) E) (xs ys : List ℕ) → Appends old mid xs
    → Puts mid now result ys → Puts old now result (xs ++ ys)
put_both old mid now (Ok done) xs ys first second = Appends-trans old mid now xs ys first second
put_both old mid now (Err fault) xs ys first (n, front) =
    (length xs + n, subst (Appends old now) (sym (take-append-add xs ys n)) (Appends-trans old mid now xs (take n ys) first front))

-- a front of the second after the whole of the first
pub put_part : (old mid now : Option (List ℕ)) (xs ys : List ℕ) → Appends old mid xs → ((n : ℕ) × Appends mid now (take n ys))
    → (n : ℕ) × Appends old now (xs ++ take n ys)
put_part old mid now xs ys first (n, front) = (n, Appends-trans old mid now xs (take n ys) first front)
