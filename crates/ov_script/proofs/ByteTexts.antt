-- Texts that lack a byte, and where it is first in others.
use Rattle.std.proofs.Common.{◌≡◌, ℕ, zero, suc, ◌+◌, ◌≤◌, Bool, true, false, List, [], ◌∷◌, ◌++◌, length, take, drop, refl, sym, ◌∙◌, ap, subst, append_assoc, zero-add, arith, ◌==◌, take-append-drop}
use Rattle.std.specs.Prelude.{not, if◌then◌else◌}
use Rattle.std.specs.List.{list_all}
use Rattle.std.proofs.lemmas.Bool.{and_parts}
use Rattle.std.proofs.lemmas.Bool.Decides.{nat_tests}
use Rattle.std.proofs.lemmas.List.{append_cancel_left, take_at, length-take-le}
use Rattle.ov_script.specs.LineFeeds.{Lacks, NoLf, lf_count}

pub Lacks-append : (c : ℕ) (xs ys : List ℕ) → Lacks c xs → Lacks c ys → Lacks c (xs ++ ys)
Lacks-append c [] ys p q = q
Lacks-append c (x ∷ xs) ys p q = (p.0, Lacks-append c xs ys p.1 q)

pub Lacks-take : (c n : ℕ) (xs : List ℕ) → Lacks c xs → Lacks c (take n xs)
Lacks-take c zero xs p = tt
Lacks-take c (suc n) [] p = tt
Lacks-take c (suc n) (x ∷ xs) p = (p.0, Lacks-take c n xs p.1)

-- a test for a text that lacks a byte
pub lacks_by_test : (c : ℕ) (xs : List ℕ) → list_all (λ b. not (b == c)) xs ≡ true → Lacks c xs
lacks_by_test c [] p = tt
lacks_by_test c (x ∷ xs) p =
    let both = and_parts (not (x == c)) (list_all (λ b. not (b == c)) xs) p in
    (λ e. grind (arith, nat_tests, both.0), lacks_by_test c xs both.1)

-- the bytes before the first such byte are the same in two ways to cut a text there
pub first_of : (c : ℕ) (xs ys x y : List ℕ) → Lacks c xs → Lacks c ys → xs ++ c ∷ x ≡ ys ++ c ∷ y → xs ≡ ys
first_of c [] [] x y p q e = refl
first_of c [] (b ∷ ys) x y p q e = absurd (q.0 (cc))
first_of c (a ∷ xs) [] x y p q e = absurd (p.0 (cc))
first_of c (a ∷ xs) (b ∷ ys) x y p q e =
    let tail : xs ++ c ∷ x ≡ ys ++ c ∷ y = cc in
    let same : xs ≡ ys = first_of c xs ys x y p.1 q.1 tail in
    let head : a ≡ b = cc in
    cc

-- the bytes before the first such byte and those behind it are the same in two ways to cut a text
-- there
pub split_once : (c : ℕ) (xs ys x y : List ℕ) → Lacks c xs → Lacks c ys → xs ++ c ∷ x ≡ ys ++ c ∷ y → (xs ≡ ys) × (x ≡ y)
split_once c xs ys x y p q e =
    let same : xs ≡ ys = first_of c xs ys x y p q e in
    let tails : c ∷ x ≡ c ∷ y = append_cancel_left xs (c ∷ x) (c ∷ y) (e ∙ ap (λ l. l ++ c ∷ y) (sym same)) in
    (same, let t : x ≡ y = cc in t)

-- a text that lacks a byte doesn't have it
pub lacks_not : (c : ℕ) (text xs ys : List ℕ) → Lacks c text → text ≡ xs ++ c ∷ ys → ⊥
lacks_not c [] [] ys p e = absurd (cc)
lacks_not c [] (x ∷ xs) ys p e = absurd (cc)
lacks_not c (b ∷ text) [] ys p e = p.0 (cc)
lacks_not c (b ∷ text) (x ∷ xs) ys p e = let tail : text ≡ xs ++ c ∷ ys = cc in lacks_not c text xs ys p.1 tail

-- a byte comes past any front that lacks it
pub past_front : (c : ℕ) (xs ys x y : List ℕ) → Lacks c ys → xs ++ c ∷ x ≡ ys ++ y → length ys ≤ length xs
past_front c xs [] x y q e = omega arith
past_front c [] (b ∷ ys) x y q e = absurd (q.0 (cc))
past_front c (a ∷ xs) (b ∷ ys) x y q e =
    let tail : xs ++ c ∷ x ≡ ys ++ y = cc in
    let rest : length ys ≤ length xs = past_front c xs ys x y q.1 tail in
    omega arith

-- a front that lacks the byte begins what is before the byte
pub front_before : (c : ℕ) (xs ys x y : List ℕ) → Lacks c xs → xs ++ x ≡ ys ++ c ∷ y → (z : List ℕ) × (ys ≡ xs ++ z)
front_before c [] ys x y p e = (ys, refl)
front_before c (a ∷ xs) [] x y p e = absurd (p.0 (cc))
front_before c (a ∷ xs) (b ∷ ys) x y p e =
    let tail : xs ++ x ≡ ys ++ c ∷ y = cc in
    let rest = front_before c xs ys x y p.1 tail in
    let same : ys ≡ xs ++ rest.0 = rest.1 in
    (rest.0, cc)

-- the first bytes of a text lack a byte where its front does
pub lacks_before : (c room : ℕ) (bytes line rest : List ℕ) → Lacks c line → bytes ≡ line ++ rest → room ≤ length line → Lacks c (take room bytes)
lacks_before c room bytes line rest lacks whole within =
    let split : bytes ≡ take room line ++ (drop room line ++ rest) =
    whole ∙ ap (λ l. l ++ rest) (sym (take-append-drop room line)) ∙ append_assoc (take room line) (drop room line) rest in
    let size : length (take room line) ≡ room = length-take-le room line within in
    subst (Lacks c) (sym (ap (take room) split ∙ take_at (take room line) (drop room line ++ rest) room size)) (Lacks-take c room line lacks)

-- ---- counts of LF

pub lf_count-NoLf : (xs : List ℕ) → NoLf xs → lf_count xs ≡ 0
lf_count-NoLf [] p = refl
lf_count-NoLf (x ∷ xs) p =
    let rest : lf_count xs ≡ 0 = lf_count-NoLf xs p.1 in
    let none : (x == 10) ≡ false = grind (arith, nat_tests) in
    rw (none, rest) refl

pub lf_count-append : (xs ys : List ℕ) → lf_count (xs ++ ys) ≡ lf_count xs + lf_count ys
lf_count-append [] ys = sym (zero-add (lf_count ys))
lf_count-append (x ∷ xs) ys = rw (lf_count-append xs ys) (omega arith)

pub lf_count-within : (xs : List ℕ) → lf_count xs ≤ length xs
lf_count-within [] = omega arith
lf_count-within (x ∷ xs) =
    let rest : lf_count xs ≤ length xs = lf_count-within xs in
    elim (x == 10) as (λ (t : Bool). (if t then 1 else 0) + lf_count xs ≤ suc (length xs)) [ true ↦ omega arith | false ↦ omega arith ]

-- a line with its LF counts as one more than what follows it
pub lf_count-line : (line tail : List ℕ) → NoLf line → lf_count (line ++ 10 ∷ tail) ≡ 1 + lf_count tail
lf_count-line line tail p = rw (lf_count-append line (10 ∷ tail), lf_count-NoLf line p) (omega arith)
