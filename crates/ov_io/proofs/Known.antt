-- Parts of bytes that are known or not.
use Rattle.std.proofs.Common.{◌≡◌, ℕ, ◌+◌, List, ◌++◌, length, take, drop, refl, sym, append_assoc, Option}
use Rattle.std.proofs.lemmas.List.{take-append-drop, drop-drop}
use Rattle.std.proofs.Math.Seq.{take-append_seam}
use Rattle.std.specs.Io.KnownBytes.{Appends}
use Rattle.std.proofs.KnownBytes.{Appends-trans}

-- a source that holds a list gives the next n bytes of it
pub drop_consumed : (xs rest given : List ℕ) (at n : ℕ) → rest ≡ drop at xs → take n given ≡ take n rest → drop at xs ≡ take n given ++ drop (at + n) xs
drop_consumed xs rest given at n r e = rw (e, r, ← drop-drop n at xs) (sym (take-append-drop n (drop at xs)))

-- one more part of the bytes
pub part_more : (bytes done rest more : List ℕ) (n : ℕ) → bytes ≡ done ++ rest → more ≡ drop n rest → bytes ≡ (done ++ take n rest) ++ more
part_more bytes done rest more n e m = rw (m, append_assoc, take-append-drop n rest) e

-- a front of the bytes was appended
pub part_put : (a b c : Option (List ℕ)) (bytes done rest : List ℕ) (n : ℕ) → bytes ≡ done ++ rest → Appends a b done → Appends b c (take n rest) → (k : ℕ) × Appends a c (take k bytes)
part_put a b c bytes done rest n e p q =
    let whole : take (length (done ++ take n rest)) bytes ≡ done ++ take n rest = rw (part_more bytes done rest (drop n rest) n e refl) (take-append_seam (done ++ take n rest) (drop n rest)) in
    (length (done ++ take n rest), rw whole (Appends-trans a b c done (take n rest) p q))
