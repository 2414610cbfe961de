-- Sets as fields.
use Rattle.std.proofs.Common.{◌≡◌, ℕ, zero, suc, ◌*◌, ◌^◌, ◌<◌, ◌+◌, List, [], ◌∷◌, ◌++◌, length, refl, sym, ap, subst, ◌∙◌, Ok, arith}
use Rattle.std.proofs.Math.Nat.{pow-suc}
use Rattle.std.proofs.lemmas.Nat.{pow-add}
use Rattle.ov_base.specs.Sets.{IsBelow, bytes_of, set_of_bytes}
use Rattle.ov_base.proofs.SetBytes.{length-bytes_of, set_of_bytes-bytes_of, bytes_of-set_of_bytes}
use Rattle.ov_base.proofs.SetLaws.{small-IsBelow, IsBelow-small}
use Rattle.ov_fields.specs.Reading.{bytes_at, set_at, made}
use Rattle.ov_fields.proofs.ReadingLaws.{AreBytes, AreBytes-back, AreBytes-front, bind_ok, done, ok_is, no_error, Reads, made_of}
use Rattle.ov_fields.proofs.FieldLaws.{bytes_reads}

pow-bytes : (count : ℕ) → 256 ^ count ≡ 2 ^ (8 * count)
pow-bytes zero = refl
pow-bytes (suc count) =
    let p = pow-suc 256 count in
    let e = pow-bytes count in
    let more : 8 * suc count ≡ 8 * count + 8 = omega arith in
    let q : 2 ^ (8 * count + 8) ≡ 2 ^ (8 * count) * 256 = pow-add 2 (8 * count) 8 in
    omega (arith, ap (λ (k : ℕ). 2 ^ k) more)

set_of_bytes-small : (bytes : List ℕ) → AreBytes bytes → set_of_bytes bytes < 256 ^ length bytes
unfolding set_of_bytes
set_of_bytes-small [] fits = omega arith
set_of_bytes-small (b ∷ bytes) fits =
    let p = pow-suc 256 (length bytes) in
    let small : b < 256 = fits.each 0 in
    let tail = set_of_bytes-small bytes (AreBytes-back (b ∷ []) bytes fits) in
    omega (arith, p, tail)

set_takes : (count : ℕ) (bytes : List ℕ) (x : ℕ × List ℕ) → AreBytes bytes → set_at count bytes ≡ Ok x → IsBelow (8 * count) x.0 × (bytes ≡ bytes_of count x.0 ++ x.1)
set_takes count bytes x fits e =
    let a = bind_ok (bytes_at count bytes) (λ a. done (made_of set_of_bytes a)) x e in
    let t = (bytes_reads count).takes bytes a.0 fits a.1 in
    let front : AreBytes a.0.0 = AreBytes-front a.0.0 a.0.1 (subst AreBytes t.1 fits) in
    let back : bytes_of count (set_of_bytes a.0.0) ≡ a.0.0 = bytes_of-set_of_bytes a.0.0 count t.0 front.each in
    let small : set_of_bytes a.0.0 < 2 ^ (8 * count) = subst (λ (k : ℕ). set_of_bytes a.0.0 < k) (pow-bytes count) (subst (λ (k : ℕ). set_of_bytes a.0.0 < 256 ^ k) t.0 (set_of_bytes-small a.0.0 front)) in
    subst (λ (y : ℕ × List ℕ). IsBelow (8 * count) y.0 × (bytes ≡ bytes_of count y.0 ++ y.1)) (ok_is (made_of set_of_bytes a.0) x a.2)
    (small-IsBelow (8 * count) (set_of_bytes a.0.0) small, t.1 ∙ ap (λ (text : List ℕ). text ++ a.0.1) (sym back))

set_again : (count set : ℕ) (rest : List ℕ) → IsBelow (8 * count) set → set_at count (bytes_of count set ++ rest) ≡ Ok (set, rest)
set_again count set rest below =
    let small : set < 256 ^ count = subst (λ (k : ℕ). set < k) (sym (pow-bytes count)) (IsBelow-small (8 * count) set below) in
    ap (made set_of_bytes) ((bytes_reads count).again (bytes_of count set) rest (length-bytes_of count set))
    ∙ ap (λ (s : ℕ). done (s, rest)) (set_of_bytes-bytes_of count set small)

pub set_reads : (count : ℕ) → Reads (set_at count) (bytes_of count) (IsBelow (8 * count)) count
set_reads count = record {
  takes = set_takes count;
  again = set_again count;
  near = λ bytes left fits e. (bytes_reads count).near bytes left fits (no_error (bytes_at count bytes) (made_of set_of_bytes) left e);
  short = λ set below. omega (arith, length-bytes_of count set);
}
