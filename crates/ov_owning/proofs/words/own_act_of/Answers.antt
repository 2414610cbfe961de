use Rattle.std.proofs.Common.{rules, ◌≡◌, ◌∙◌, ◌≤◌, arith, length, refl, sym, true}
use Rattle.std.specs.Prelude.{codes}
use Rattle.std.specs.Str.{bytes_eq}
use Rattle.std.proofs.lemmas.Slice.Eq.{bytes_eq-Decides}
use Rattle.ov_base.proofs.Tests.{true_of_not}
use Rattle.ov_owning.proofs.Texts.{no_tail, none_by, one_alone}
use Rattle.ov_owning.proofs.words.own_act_of.Goals as goal

pub returns-then-not-is_empty-clause-none : goal.returns-then-not-is_empty-clause-none
returns-then-not-is_empty-clause-none c =
    let more : (length c.in-Some.rest.now ≡ 0) → ⊥ = search rules in
    let some : 1 ≤ length c.in-Some.rest.now = omega (arith, more) in
    none_by c.update_by.result _ _
    (no_tail c.args.words.now c.in-Some.rest.now c.in-Some.command.now c.in-Some.ensures.cases.0 some)
    (rw c.as_str.ensures.value at c.update_by.ensures.none)

pub returns-clause-found : goal.returns-clause-found
returns-clause-found c =
    let same : bytes_eq c.as_str-2.result.now (codes "resume") ≡ true =
    true_of_not _ (sym c.ne.ensures ∙ c.if-ne.false) in
    let none : length c.in-Some.rest.now ≡ 0 = search rules in (
      one_alone c.args.words.now c.in-Some.rest.now c.in-Some.command.now _ c.in-Some.ensures.cases.0 none
          (sym c.as_str-2.ensures.value ∙ (bytes_eq-Decides c.as_str-2.result.now (codes "resume")).0 same),
      refl,
    )
