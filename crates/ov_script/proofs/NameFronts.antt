-- How the bytes of a name go on.
use Rattle.std.proofs.Common.{◌≡◌, ℕ, zero, suc, ◌+◌, ◌<◌, ◌≤◌, Bool, true, false, List, [], ◌∷◌, length, refl, sym, ◌∙◌, arith, ◌&&◌}
use Rattle.std.specs.Prelude.{nat_lt}
use Rattle.std.specs.List.{list_all}
use Rattle.std.proofs.lemmas.Bool.{and_parts, and_from}
use Rattle.std.proofs.lemmas.Bool.Decides.{nat_tests}
use Rattle.ov_base.specs.Names.{is_name_byte, IsName}
use Rattle.ov_script.specs.LineFronts.{is_named}
use Rattle.ov_script.proofs.WordBytes.{name_parts, name_from}

-- the rest of a name of which this many bytes came
abbrev pub RestOfName : ℕ → List ℕ → Type 0
RestOfName count [] = 0 < count
RestOfName count (b ∷ more) = (is_named count b ≡ true) × RestOfName (count + 1) more

is_named_later : (count b : ℕ) → 0 < count → is_named count b ≡ (nat_lt count 64 && is_name_byte b)
is_named_later zero b some = absurd (omega arith)
is_named_later (suc n) b some = refl

rest_from : (count : ℕ) (more : List ℕ) → 0 < count → count + length more ≤ 64 → list_all is_name_byte more ≡ true → RestOfName count more
rest_from count [] some short p = some
rest_from count (b ∷ more) some short p =
    let both = and_parts (is_name_byte b) (list_all is_name_byte more) p in
    let below : nat_lt count 64 ≡ true = grind (arith, nat_tests) in
    (is_named_later count b some ∙ and_from (nat_lt count 64) (is_name_byte b) below both.0, rest_from (count + 1) more (omega arith) (omega arith) both.1)

rest_parts : (count : ℕ) (more : List ℕ) → 0 < count → count ≤ 64 → RestOfName count more → (count + length more ≤ 64) × (list_all is_name_byte more ≡ true)
rest_parts count [] some short p = (omega arith, refl)
rest_parts count (b ∷ more) some short p =
    let named = and_parts (nat_lt count 64) (is_name_byte b) (sym (is_named_later count b some) ∙ p.0) in
    let below : nat_lt count 64 ≡ true = named.0 in
    let less : count < 64 = grind (arith, nat_tests) in
    let rest = rest_parts (count + 1) more (omega arith) (omega arith) p.1 in
    let within : count + 1 + length more ≤ 64 = rest.0 in
    (omega arith, and_from (is_name_byte b) (list_all is_name_byte more) named.1 rest.1)

-- a whole name
pub rest_of_name : (name : List ℕ) → IsName name → RestOfName 0 name
rest_of_name [] p = absurd (cc)
rest_of_name (b ∷ more) p =
    let q = name_parts b more p in
    let short : length more < 64 = q.short in
    (q.begins, rest_from 1 more (omega arith) (omega arith) q.goes_on)

pub name_of_rest : (name : List ℕ) → RestOfName 0 name → IsName name
name_of_rest [] p = absurd (omega arith)
name_of_rest (b ∷ more) p =
    let rest = rest_parts 1 more (omega arith) (omega arith) p.1 in
    let within : 1 + length more ≤ 64 = rest.0 in
    name_from b more (record { begins = p.0; short = omega arith; goes_on = rest.1 })

pub space_ends_name : (count : ℕ) → is_named count 32 ≡ false
space_ends_name zero = refl
space_ends_name (suc n) = elim (nat_lt (suc n) 64) as (λ (t : Bool). (t && is_name_byte 32) ≡ false) [ true ↦ refl | false ↦ refl ]

pub comma_ends_name : (count : ℕ) → is_named count 44 ≡ false
comma_ends_name zero = refl
comma_ends_name (suc n) = elim (nat_lt (suc n) 64) as (λ (t : Bool). (t && is_name_byte 44) ≡ false) [ true ↦ refl | false ↦ refl ]
