use Rattle.std.proofs.Common.{◌≡◌, ◌==◌, ◌∙◌, ℕ, List, ap, length, subst, sym, true}
use Rattle.std.specs.Prelude.{IfNone, IfSome}
use Rattle.ov_script.specs.WrittenLists.{IsList}
use Rattle.ov_auditing.proofs.ListTexts.{is_list, none_in_empty}
use Rattle.ov_auditing.proofs.audit_words.some_names.Goals as goal

pub returns-then-is_empty-clause-none : goal.returns-then-is_empty-clause-none
returns-then-is_empty-clause-none c =
    let found : List (List ℕ) = c.in-Some.names in
    let of_bytes : IsList c.as_bytes.result.now found =
    subst (λ o. IfSome o (IsList c.as_bytes.result.now)) c.in-Some.is c.in_ok-names.ensures.found in
    let is : IsList c.args.list.now found =
    subst (λ (text : List ℕ). IsList text found) c.as_bytes.ensures.value of_bytes in
    let empty : (length found == 0) ≡ true =
    ap (λ (l : List (List ℕ)). length l == 0) (sym c.as_slice.ensures.names)
    ∙ sym c.is_empty.ensures ∙ c.if-is_empty.true in
    none_in_empty c.args.list.now found is empty

pub returns-in-None-clause-none : goal.returns-in-None-clause-none
returns-in-None-clause-none c = λ names some.
    let none =
    subst
    (λ o. IfNone o ((others : List (List ℕ)) → IsList c.as_bytes.result.now others → ⊥))
    c.in-None.is c.in_ok-names.ensures.none in
    none names
    (subst (λ (text : List ℕ). IsList text names) (sym c.as_bytes.ensures.value)
    (is_list c.args.list.now names some))
