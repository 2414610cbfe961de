use Rattle.ov_history_t.proofs.BothFormats.{new_stores_are_of_the_second}
use Rattle.ov_history_t.proofs.formats.new_stores_are_of_the_second_format.Goals as goal

pub returns : goal.returns
returns c = new_stores_are_of_the_second
