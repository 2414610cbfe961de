-- What a name goes on with, and what follows it.
use Rattle.std.proofs.Common.{◌≡◌, ◌⊎◌, inl, inr, ℕ, ◌<◌, Bool, true, false, List, [], ◌∷◌, ◌++◌, refl, sym, ◌∙◌, ap, subst, append_assoc, arith, ◌==◌}
use Rattle.std.specs.Prelude.{nat_lt}
use Rattle.std.proofs.lemmas.Bool.Decides.{nat_tests}
use Rattle.ov_base.specs.Names.{is_letter_or_digit}
use Rattle.ov_script.specs.LineFronts.{after_name, after_comma, end_by, name_by, is_named, readers_by}
use Rattle.ov_script.specs.WrittenLists.{with_commas}
use Rattle.ov_script.specs.declared.front.Then.{Then}
use Rattle.ov_script.specs.declared.front.Then.TheVariants.{End, LastName, Readers, Size, NextReader}
use Rattle.ov_script.specs.declared.front.Front.TheVariants.{InName}
use Rattle.ov_script.proofs.Fitting.{NameThen, IsNothing, IsSize, AreReaders, AreMoreReaders, Follows, Fits}
use Rattle.ov_script.proofs.NameFronts.{rest_of_name, name_of_rest, space_ends_name, comma_ends_name}

-- ---- behind a name

-- a space is there, or a comma
abbrev Ends : Then → ℕ → List ℕ → Type 0
Ends next b text = ((b ≡ 32) × Fits (after_name next) text) ⊎ ((b ≡ 44) × Fits (after_comma next) text)

ends_more : (b : ℕ) (text : List ℕ) → AreMoreReaders (b ∷ text) → Ends NextReader b text
ends_more b text ([], rest, are, e, size) = let first : b ≡ 32 = cc in let same : rest ≡ text = cc in inl (first, subst IsSize same size)
ends_more b text (name ∷ names, rest, are, e, size) =
    let first : b ≡ 44 = cc in
    let same : text ≡ (name ++ with_commas names) ++ 32 ∷ rest = cc in
    inr (first, (name, with_commas names ++ 32 ∷ rest, same ∙ append_assoc name (with_commas names) (32 ∷ rest), rest_of_name name are.0, (names, rest, are.1, refl, size)))

ends_name : (next : Then) (b : ℕ) (text : List ℕ) → Follows next (b ∷ text) → Ends next b text
ends_name End b text p = absurd (cc)
ends_name LastName b text (rest, e, p) = let first : b ≡ 32 = cc in let same : rest ≡ text = cc in inl (first, subst (NameThen IsNothing 0) same p)
ends_name Readers b text (rest, e, p) = let first : b ≡ 32 = cc in let same : rest ≡ text = cc in inl (first, subst AreReaders same p)
ends_name Size b text (rest, e, p) = let first : b ≡ 32 = cc in let same : rest ≡ text = cc in inl (first, subst IsSize same p)
ends_name NextReader b text p = ends_more b text p

after_space : (next : Then) (text : List ℕ) → Fits (after_name next) text → Follows next (32 ∷ text)
after_space End text p = absurd p
after_space LastName text p = (text, refl, p)
after_space Readers text p = (text, refl, p)
after_space Size text p = (text, refl, p)
after_space NextReader text p = ([], text, tt, refl, p)

behind_comma : (next : Then) (text : List ℕ) → Fits (after_comma next) text → Follows next (44 ∷ text)
behind_comma End text p = absurd p
behind_comma LastName text p = absurd p
behind_comma Readers text p = absurd p
behind_comma Size text p = absurd p
behind_comma NextReader text (name, rest, e, r, (names, size, are, f, is)) =
    (name ∷ names, size, (name_of_rest name r, are), ap (λ t. 44 ∷ t) (e ∙ ap (λ t. name ++ t) f ∙ sym (append_assoc name (with_commas names) (32 ∷ size))), is)

fits_end : (next : Then) (b : ℕ) (text : List ℕ) → Ends next b text → Fits (end_by (b == 32) (b == 44) next) text
fits_end next b text (inl (e, p)) = subst (λ c. Fits (end_by (c == 32) (c == 44) next) text) (sym e) p
fits_end next b text (inr (e, p)) = subst (λ c. Fits (end_by (c == 32) (c == 44) next) text) (sym e) p

end_fits : (next : Then) (b : ℕ) (text : List ℕ) (space comma : Bool) → (b == 32) ≡ space → (b == 44) ≡ comma → Fits (end_by space comma next) text → Follows next (b ∷ text)
end_fits next b text true comma is_space is_comma p = let e : 32 ≡ b = grind (arith, nat_tests) in subst (λ c. Follows next (c ∷ text)) e (after_space next text p)
end_fits next b text false true is_space is_comma p = let e : 44 ≡ b = grind (arith, nat_tests) in subst (λ c. Follows next (c ∷ text)) e (behind_comma next text p)
end_fits next b text false false is_space is_comma p = absurd p

-- ---- one byte of a name, or behind it

ends_unnamed : (next : Then) (count b : ℕ) (text : List ℕ) → Ends next b text → is_named count b ≡ false
ends_unnamed next count b text (inl (e, p)) = ap (is_named count) e ∙ space_ends_name count
ends_unnamed next count b text (inr (e, p)) = ap (is_named count) e ∙ comma_ends_name count

pub fits_name : (next : Then) (count b : ℕ) (text : List ℕ) → Fits (InName next count) (b ∷ text) → Fits (name_by (is_named count b) (nat_lt 0 count) next count b) text
fits_name next count b text ([], rest, e, r, p) =
    let ends = ends_name next b text (subst (Follows next) (sym e) p) in
    let some : nat_lt 0 count ≡ true = grind (arith, nat_tests) in
    subst (λ (t : Bool). Fits (name_by t (nat_lt 0 count) next count b) text) (sym (ends_unnamed next count b text ends))
    (subst (λ (t : Bool). Fits (name_by false t next count b) text) (sym some) (fits_end next b text ends))
fits_name next count b text (c ∷ more, rest, e, r, p) =
    let first : c ≡ b = cc in
    let same : text ≡ more ++ rest = cc in
    let named : is_named count b ≡ true = ap (is_named count) (sym first) ∙ r.0 in
    subst (λ (t : Bool). Fits (name_by t (nat_lt 0 count) next count b) text) (sym named) (more, rest, same, r.1, p)

pub name_fits : (next : Then) (count b : ℕ) (text : List ℕ) (named whole : Bool) → is_named count b ≡ named → nat_lt 0 count ≡ whole
    → Fits (name_by named whole next count b) text → Fits (InName next count) (b ∷ text)
name_fits next count b text true whole is_named is_whole (more, rest, e, r, p) = (b ∷ more, rest, ap (λ t. b ∷ t) e, (is_named, r), p)
name_fits next count b text false true is_named is_whole p =
    let some : 0 < count = grind (arith, nat_tests) in
    ([], b ∷ text, refl, some, end_fits next b text (b == 32) (b == 44) refl refl p)
name_fits next count b text false false is_named is_whole p = absurd p

-- ---- the first byte of a list

pub fits_readers : (b : ℕ) (text : List ℕ) → AreReaders (b ∷ text) → Fits (readers_by (is_letter_or_digit b) (b == 45)) text
fits_readers b text ([], rest, are, e, size) =
    let first : 45 ≡ b = cc in
    let same : text ≡ 32 ∷ rest = cc in
    subst (λ c. Fits (readers_by (is_letter_or_digit c) (c == 45)) text) first (rest, same, size)
fits_readers b text ([] ∷ names, rest, are, e, size) = let none : false ≡ true = are.0 in absurd (cc)
fits_readers b text ((c ∷ name) ∷ names, rest, are, e, size) =
    let first : c ≡ b = cc in
    let same : text ≡ (name ++ with_commas names) ++ 32 ∷ rest = cc in
    let r = rest_of_name (c ∷ name) are.0 in
    let letter : is_letter_or_digit b ≡ true = ap is_letter_or_digit (sym first) ∙ r.0 in
    subst (λ (t : Bool). Fits (readers_by t (b == 45)) text) (sym letter)
    (name, with_commas names ++ 32 ∷ rest, same ∙ append_assoc name (with_commas names) (32 ∷ rest), r.1, (names, rest, are.1, refl, size))

pub readers_fits : (b : ℕ) (text : List ℕ) (letter dash : Bool) → is_letter_or_digit b ≡ letter → (b == 45) ≡ dash → Fits (readers_by letter dash) text → AreReaders (b ∷ text)
readers_fits b text true dash is_letter is_dash (name, rest, e, r, (names, size, are, f, is)) =
    ((b ∷ name) ∷ names, size, (name_of_rest (b ∷ name) (is_letter, r), are), ap (λ t. b ∷ t) (e ∙ ap (λ t. name ++ t) f ∙ sym (append_assoc name (with_commas names) (32 ∷ size))), is)
readers_fits b text false true is_letter is_dash (rest, e, size) =
    let first : b ≡ 45 = grind (arith, nat_tests) in
    ([], rest, tt, cc, size)
readers_fits b text false false is_letter is_dash p = absurd p
