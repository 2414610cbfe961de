use Rattle.ov_model.proofs.Alike.{right_histories_have_same_lines, right_histories_step_alike}
use Rattle.ov_model.proofs.machine.right_histories_answer_alike.Goals as goal

pub returns : goal.returns
returns c = record {
  step = right_histories_step_alike;
  lines = right_histories_have_same_lines;
}
