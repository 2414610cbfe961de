use Rattle.std.proofs.Common.{◌≡◌, ◌∙◌, ◌∷◌, List, [], ap, arith, sym, true, false, ℕ}
use Rattle.std.specs.Prelude.{codes}
use Rattle.std.proofs.lemmas.Slice.Eq.{bytes_eq-Decides}
use Rattle.ov_tidying.proofs.Words.{one_text, other_length}
use Rattle.ov_tidying.proofs.tidying.is_tidy.Goals as goal

pub returns-in-len1-clause-yes : goal.returns-in-len1-clause-yes
returns-in-len1-clause-yes c is =
    one_text _ _ _ c.in-len1.len_at_least c.in-len1.len_below c.word-item.is c.as_str.ensures.value
    ∙ ap (λ (t : List ℕ). t ∷ [])
    ((bytes_eq-Decides c.as_str.result.now (codes "tidy")).0 (sym c.eq.ensures ∙ is))

pub returns-in-len1-clause-no : goal.returns-in-len1-clause-no
returns-in-len1-clause-no c is same =
    let text = one_text _ _ _ c.in-len1.len_at_least c.in-len1.len_below c.word-item.is
    c.as_str.ensures.value in
    let whole : c.as_str.result.now ∷ [] ≡ codes "tidy" ∷ [] = sym text ∙ same in
    let word : c.as_str.result.now ≡ codes "tidy" = cc whole in
    let yes = (bytes_eq-Decides c.as_str.result.now (codes "tidy")).1 word in
    let both : true ≡ false = sym yes ∙ sym c.eq.ensures ∙ is in
    absurd (cc both)

pub returns-in_default-clause-no : goal.returns-in_default-clause-no
returns-in_default-clause-no c is =
    other_length c.args.words.now (λ one. omega (arith, one))
