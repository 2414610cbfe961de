use Rattle.ov_history_t.proofs.BothFormats.{removals_are_of_the_second}
use Rattle.ov_history_t.proofs.formats.a_removal_is_of_the_second_format.Goals as goal

pub returns : goal.returns
returns c = removals_are_of_the_second
