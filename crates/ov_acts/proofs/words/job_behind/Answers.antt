use Rattle.ov_acts.proofs.Lines.{no_act_no_line}
use Rattle.ov_acts.proofs.words.job_behind.Goals as goal

pub returns-in-Ok-None-clause-none : goal.returns-in-Ok-None-clause-none
returns-in-Ok-None-clause-none c =
    no_act_no_line c.args.command.now c.args.address.now c.args.keys.now _
    (rw c.in-Ok-None.field-0-is at c.in-Ok-None.ensures.none)
