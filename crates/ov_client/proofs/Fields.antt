-- Which fields of a Chained can't be, by what was told before.
use Rattle.std.proofs.Common.{◌≡◌, ◌∙◌, ◌≤◌, ℕ, Bool, true, false, List, [], ◌∷◌, ◌++◌, length}
use Rattle.std.proofs.Common.{Option, Some, None, ap, arith, eq-eqb, length-append, refl, sym}
use Rattle.std.specs.Prelude.{◌+◌, ◌*◌, ◌==◌, nat_lt, if◌then◌else◌}
use Rattle.std.proofs.lemmas.Bool.Decides.{nat_tests}
use Rattle.std.proofs.lemmas.List.{append-nil}
use Rattle.ov_base.proofs.Tests.{lt_is_false}
use Rattle.ov_tokens.specs.declared.chain.Chain.{Chain}
use Rattle.ov_wire.specs.declared.answer.Chained.{Chained}
use Rattle.ov_client.specs.Readers.{Reader}
use Rattle.ov_client.specs.Telling.{wrong_field, wrong_surface}
use Rattle.ov_client.proofs.Leading.{BeginsAt}

-- ---- no field is wrong

surface_begins : (r : Reader) (steps : ℕ) (chain : Option Chain)
    → wrong_surface r steps chain ≡ None
    → BeginsAt r.surface_root chain
surface_begins r steps None none = tt
surface_begins r steps (Some chain) none = by_test (chain.root == r.surface_root) refl where
  by_test : (b : Bool) → (chain.root == r.surface_root) ≡ b → chain.root ≡ r.surface_root
  by_test true is = grind (arith, nat_tests)
  by_test false is =
      let wrong : wrong_surface r steps (Some chain) ≡ Some (56 + 37 * steps) =
      ap (λ (b : Bool). if b then None else Some (56 + 37 * steps)) is in absurd (cc)

pub no_field : (r : Reader) (least : ℕ) (c : Chained) → wrong_field r least c ≡ None
    → (c.base.root ≡ r.base_root) × BeginsAt r.surface_root c.surface
no_field r least c none = by_low (nat_lt c.generation least) refl where
  by_root : (b : Bool) → (c.base.root == r.base_root) ≡ b
      → (if b then wrong_surface r (length c.base.steps) c.surface else Some 49) ≡ None
      → (c.base.root ≡ r.base_root) × BeginsAt r.surface_root c.surface
  by_root true is unwrong =
      (grind (arith, nat_tests), surface_begins r (length c.base.steps) c.surface unwrong)
  by_root false is unwrong = absurd (cc)

  by_low : (b : Bool) → nat_lt c.generation least ≡ b
      → (c.base.root ≡ r.base_root) × BeginsAt r.surface_root c.surface
  by_low true is =
      let wrong : wrong_field r least c ≡ Some 13 =
      ap
      (λ (b : Bool). if b then Some 13
      else if c.base.root == r.base_root then wrong_surface r (length c.base.steps) c.surface else
      Some 49)
      is in absurd (cc)
  by_low false is =
      by_root (c.base.root == r.base_root) refl
      (sym
      (ap
      (λ (b : Bool). if b then Some 13
      else if c.base.root == r.base_root then wrong_surface r (length c.base.steps) c.surface else
      Some 49)
      is)
      ∙ none)

-- ---- fields that can be

right_surface : (r : Reader) (steps : ℕ) (chain : Option Chain) → BeginsAt r.surface_root chain
    → wrong_surface r steps chain ≡ None
right_surface r steps None begins = refl
right_surface r steps (Some chain) begins =
    ap (λ (b : Bool). if b then None else Some (56 + 37 * steps))
    (eq-eqb chain.root r.surface_root begins)

pub right_field : (r : Reader) (c : Chained) → c.base.root ≡ r.base_root
    → BeginsAt r.surface_root c.surface
    → wrong_field r 0 c ≡ None
right_field r c base surface =
    ap
    (λ (b : Bool). if b then Some 13
    else if c.base.root == r.base_root then wrong_surface r (length c.base.steps) c.surface else
    Some 49)
    (lt_is_false c.generation 0 (omega arith))
    ∙ ap (λ (b : Bool). if b then wrong_surface r (length c.base.steps) c.surface else Some 49)
    (eq-eqb c.base.root r.base_root base)
    ∙ right_surface r (length c.base.steps) c.surface surface

-- ---- fronts

-- no bytes are left
pub no_rest : (xs rest : List ℕ) → length (xs ++ rest) ≤ length xs → xs ++ rest ≡ xs
no_rest xs [] few = append-nil xs
no_rest xs (x ∷ rest) few = absurd (omega (arith, length-append xs (x ∷ rest)))
