use Rattle.ov_model.proofs.Agreement.{spellings_agree}
use Rattle.ov_model.proofs.frames.frames_hold_spellings.Goals as goal

pub returns : goal.returns
returns c = spellings_agree
