use Rattle.std.proofs.Common.{◌≡◌, ◌∙◌, sym}
use Rattle.std.proofs.lemmas.Slice.Eq.{bytes_eq-Decides}
use Rattle.std.specs.Prelude.{codes}
use Rattle.ov_load.proofs.Asking.{asked_none, asked_some, four_texts, list_of_four}
use Rattle.ov_load.proofs.load_words.load_of.Goals as goal

pub returns-in-len4-clause-found : goal.returns-in-len4-clause-found
returns-in-len4-clause-found c =
    let four = list_of_four _ _ _ _ _ c.in-len4.len_at_least c.in-len4.len_below c.load-item.is c.mode-item.is c.number-item.is c.count-item.is in
    let first : c.as_str.result.now ≡ codes "load" = (bytes_eq-Decides c.as_str.result.now (codes "load")).0 (sym c.eq.ensures ∙ c.if-eq.true) in
    let texts = four_texts _ _ _ _ _ _ _ _ _ four c.as_str.ensures.value c.as_str-in-len4.ensures.value c.as_str-in-len4-2.ensures.value c.as_str-in-len4-3.ensures.value in
    asked_some c.asked.result _ _ _ _ _ texts first c.asked.ensures.found

pub returns-in-len4-clause-none : goal.returns-in-len4-clause-none
returns-in-len4-clause-none c =
    let four = list_of_four _ _ _ _ _ c.in-len4.len_at_least c.in-len4.len_below c.load-item.is c.mode-item.is c.number-item.is c.count-item.is in
    let texts = four_texts _ _ _ _ _ _ _ _ _ four c.as_str.ensures.value c.as_str-in-len4.ensures.value c.as_str-in-len4-2.ensures.value c.as_str-in-len4-3.ensures.value in
    asked_none c.asked.result _ _ _ _ _ texts c.asked.ensures.none
