use Rattle.ov_model.proofs.Spellings.{is_spelling}
use Rattle.ov_model.proofs.frames.frames_take_updates.Goals as goal

pub returns : goal.returns
returns c = is_spelling
