use Rattle.ov_script.proofs.FirstLines.{says_no_head}
use Rattle.ov_script.proofs.first_line.headed.Goals as goal

pub returns-in-None-clause-none : goal.returns-in-None-clause-none
returns-in-None-clause-none c = says_no_head c.args.line.now c.create.result c.in-None.ensures.none c.create.ensures.none
