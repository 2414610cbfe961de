use Rattle.ov_wire.proofs.AnswerForms.{answer_is_frame}
use Rattle.ov_wire.proofs.laws.answers_fit_frames.Goals as goal

pub returns : goal.returns
returns c = answer_is_frame
