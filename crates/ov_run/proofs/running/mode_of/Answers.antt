use Rattle.std.proofs.Common.{◌≡◌, ◌∙◌, sym}
use Rattle.std.proofs.lemmas.Slice.Eq.{bytes_eq-Decides}
use Rattle.std.specs.Prelude.{codes}
use Rattle.ov_run.proofs.TwoWords.{list_of_two, two_texts, is_run, told_mode}
use Rattle.ov_run.proofs.running.mode_of.Goals as goal

pub returns-in-len2-clause-found : goal.returns-in-len2-clause-found
returns-in-len2-clause-found c =
    let two = list_of_two _ _ _ c.in-len2.len_at_least c.in-len2.len_below c.run-item.is c.mode-item.is in
    let run : c.as_str.result.now ≡ codes "run" = (bytes_eq-Decides c.as_str.result.now (codes "run")).0 (sym c.eq.ensures ∙ c.if-eq.true) in
    let texts = two_texts _ _ _ _ _ two c.as_str.ensures.value c.as_str-in-len2.ensures.value in
    told_mode c.mode_of_word.result _ _ c.mode_of_word.ensures.found (λ mode word. is_run mode _ _ _ texts run word)
