-- Parts of a file that is taken piece by piece, and its two lines.
use Rattle.std.proofs.Common.{◌≡◌, ℕ, ◌+◌, ◌≤◌, ◌⊎◌, inl, inr, List, [], ◌∷◌, ◌++◌, length, take, drop, sym, ◌∙◌, ap, subst, arith, length-append, append-nil, Option, Some, None}
use Rattle.std.specs.Prelude.{◌≢◌, IfSome, IfNone}
use Rattle.std.proofs.lemmas.List.{length-take}
use Rattle.std.proofs.Math.Seq.{drop-append_seam}
use Rattle.std.specs.Io.KnownBytes.{Consumes, IsAtEnd}
use Rattle.hex.proofs.HexLemmas.{decode_of-same}
use Rattle.ov_base.proofs.Lists.{cut_once}
use Rattle.ov_keyfile.specs.KeyFile.{AreLines, IsEnd, IsKeyFile, IsKeyLine, IsReadAs, HasMasters}
use Rattle.ov_keyfile.specs.declared.masters.Masters.{Masters}

-- no more is taken than the buffer holds
pub few : (n : ℕ) (xs : List ℕ) → n ≤ 131 → length (take n xs) ≤ 131
few n xs h = omega (arith, length-take n xs)

-- ---- lines

pub lines_once : (file first second other another : List ℕ) → AreLines file first second → AreLines file other another → (first ≡ other) × (second ≡ another)
lines_once file first second other another one two =
    let outer = cut_once first other (10 ∷ (second ++ one.end)) (10 ∷ (another ++ two.end)) (one.first_long ∙ sym two.first_long) (sym one.parts ∙ two.parts) in
    let rest : second ++ one.end ≡ another ++ two.end = tails outer.1 in
    (outer.0, (cut_once second another one.end two.end (one.second_long ∙ sym two.second_long) rest).0) where
      tails : {xs ys : List ℕ} → 10 ∷ xs ≡ 10 ∷ ys → xs ≡ ys
      tails e = cc

-- the parts of a file that is cut behind 64 bytes, one byte and 64 bytes
pub cut_lines : (file a rest f lines s e first second : List ℕ) → a ≡ take 64 file → rest ≡ drop 64 file → f ≡ take 1 rest → lines ≡ drop 1 rest
    → s ≡ take 64 lines → e ≡ drop 64 lines → (l : AreLines file first second) → (f ≡ 10 ∷ []) × (e ≡ l.end)
cut_lines file a rest f lines s e first second a_is rest_is f_is lines_is s_is e_is l =
    let behind : rest ≡ 10 ∷ (second ++ l.end) =
    rest_is ∙ ap (drop 64) l.parts ∙ ap (λ n. drop n (first ++ 10 ∷ (second ++ l.end))) (sym l.first_long) ∙ drop-append_seam first (10 ∷ (second ++ l.end)) in
    let after : lines ≡ second ++ l.end = lines_is ∙ ap (drop 1) behind in (
      f_is ∙ ap (take 1) behind,
      e_is ∙ ap (drop 64) after ∙ ap (λ n. drop n (second ++ l.end)) (sym l.second_long) ∙ drop-append_seam second l.end,
    )

end_short : (end : List ℕ) → IsEnd end → length end ≤ 1
end_short end (inl e) = let long : length end ≡ 1 = ap length e in omega arith
end_short end (inr e) = let long : length end ≡ 0 = ap length e in omega arith

pub lines_long : (file first second : List ℕ) → AreLines file first second → (129 ≤ length file) × (length file ≤ 130)
lines_long file first second l =
    let whole : length file ≡ length first + length (10 ∷ (second ++ l.end)) = ap length l.parts ∙ length-append first (10 ∷ (second ++ l.end)) in
    let rest : length (second ++ l.end) ≡ length second + length l.end = length-append second l.end in
    let short : length l.end ≤ 1 = end_short l.end l.last in
    let a : length first ≡ 64 = l.first_long in
    let b : length second ≡ 64 = l.second_long in
    (omega arith, omega arith)

-- ---- a whole file

read_past : (file : List ℕ) (front rest : List ℕ) (m : Option Masters) → file ≡ front ++ rest → length front ≡ 131 → IsReadAs front m → IsReadAs file m
read_past file front rest None e long is = λ (h : HasMasters file).
    let k = h.2 in
    let size : length file ≡ length front + length rest = ap length e ∙ length-append front rest in
    let most : length file ≤ 130 = (lines_long file k.first k.second k.lines).1 in
    absurd (omega arith)
read_past file front rest (Some m) e long is =
    let most : length front ≤ 130 = (lines_long front is.first is.second is.lines).1 in
    absurd (omega arith)

read_whole : (old new : Option (List ℕ)) (front : List ℕ) (m : Option Masters) → Consumes old new front → (length front ≡ 131) ⊎ IsAtEnd new → IsReadAs front m
    → IfSome old (λ file. IsReadAs file m)
read_whole None new front m had all is = tt
read_whole (Some file) None front m had all is = absurd had
read_whole (Some file) (Some rest) front m had (inl long) is = read_past file front rest m had long is
read_whole (Some file) (Some rest) front m had (inr none) is =
    let same : file ≡ front = had ∙ ap (λ r. front ++ r) none ∙ append-nil front in
    subst (λ f. IsReadAs f m) (sym same) is

pub read_all : (old new : Option (List ℕ)) (file front : List ℕ) (m : Option Masters) (count : ℕ) → file ≡ front → length file ≡ count → Consumes old new front
    → (count ≡ 131) ⊎ IsAtEnd new → IsReadAs file m → IfSome old (λ file. IsReadAs file m)
read_all old new file front m count e long had (inl full) is = read_whole old new file m (subst (Consumes old new) (sym e) had) (inl (long ∙ full)) is
read_all old new file front m count e long had (inr none) is = read_whole old new file m (subst (Consumes old new) (sym e) had) (inr none) is

-- ---- masters

same_key : (line key other : List ℕ) → IsKeyLine line key → IsKeyLine line other → key ≡ other
same_key line key other one two = decode_of-same line key other one.decoded two.decoded

pub one_pair : (file base surface other another : List ℕ) → IsKeyFile file base surface → IsKeyFile file other another → (base ≡ other) × (surface ≡ another)
one_pair file base surface other another one two =
    let lines = lines_once file one.first one.second two.first two.second one.lines two.lines in (
      same_key one.first base other one.base_line (subst (λ l. IsKeyLine l other) (sym lines.0) two.base_line),
      same_key one.second surface another one.surface_line (subst (λ l. IsKeyLine l another) (sym lines.1) two.surface_line),
    )

-- what is read of two lines is what is read of the file
pub key_file_of : (file first second : List ℕ) (m : Option Masters) → AreLines file first second
    → IfSome m (λ masters. IsKeyLine first masters.base.bytes × IsKeyLine second masters.surface.bytes × (masters.base.bytes ≢ masters.surface.bytes))
    → IfNone m ((base surface : List ℕ) → IsKeyLine first base → IsKeyLine second surface → base ≡ surface) → IsReadAs file m
key_file_of file first second None lines found none = λ (h : HasMasters file).
    let k = h.2 in
    let same = lines_once file k.first k.second first second k.lines lines in
    k.differ (none h.0 h.1 (subst (λ l. IsKeyLine l h.0) same.0 k.base_line) (subst (λ l. IsKeyLine l h.1) same.1 k.surface_line))
key_file_of file first second (Some m) lines found none = record {
  first = first;
  second = second;
  lines = lines;
  base_line = found.0;
  surface_line = found.1;
  differ = found.2;
}
