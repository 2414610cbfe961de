use Rattle.ov_history_t.proofs.BothFormats.{short_lists_are_of_the_first}
use Rattle.ov_history_t.proofs.formats.short_lists_are_of_the_first_format.Goals as goal

pub returns : goal.returns
returns c = short_lists_are_of_the_first
