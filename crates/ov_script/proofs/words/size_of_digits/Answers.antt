use Rattle.std.proofs.Common.{◌∙◌, sym, ap}
use Rattle.ov_script.specs.LineFronts.{size_read}
use Rattle.ov_script.proofs.Sizes.{size_found, size_none}
use Rattle.ov_script.proofs.words.size_of_digits.Goals as goal

pub returns-in-Some-clause-found : goal.returns-in-Some-clause-found
returns-in-Some-clause-found c = size_found _ _ (sym (ap size_read c.run.ensures) ∙ sym c.size.ensures ∙ c.in-Some.is)

pub returns-in-None-clause-none : goal.returns-in-None-clause-none
returns-in-None-clause-none c = size_none _ (sym (ap size_read c.run.ensures) ∙ sym c.size.ensures ∙ c.in-None.is)
