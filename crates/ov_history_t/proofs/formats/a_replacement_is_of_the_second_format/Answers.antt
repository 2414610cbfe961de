use Rattle.ov_history_t.proofs.BothFormats.{replacements_are_of_the_second}
use Rattle.ov_history_t.proofs.formats.a_replacement_is_of_the_second_format.Goals as goal

pub returns : goal.returns
returns c = replacements_are_of_the_second
