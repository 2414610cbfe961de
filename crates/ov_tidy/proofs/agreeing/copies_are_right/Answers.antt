use Rattle.ov_tidy.proofs.CopyRight.{copy_agrees, copy_is_right}
use Rattle.ov_tidy.proofs.agreeing.copies_are_right.Goals as goal

pub returns : goal.returns
returns c = record { agree = copy_agrees; right = copy_is_right }
