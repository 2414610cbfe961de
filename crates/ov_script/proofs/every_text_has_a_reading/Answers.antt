use Rattle.ov_script.proofs.Deciding.{every_text_has_a_reading}
use Rattle.ov_script.proofs.every_text_has_a_reading.Goals as goal

pub returns : goal.returns
returns c = every_text_has_a_reading
