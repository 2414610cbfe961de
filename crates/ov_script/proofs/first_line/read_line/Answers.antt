use Rattle.ov_script.proofs.FirstLines.{says_nothing}
use Rattle.ov_script.proofs.first_line.read_line.Goals as goal

pub returns-in-None-clause-none : goal.returns-in-None-clause-none
returns-in-None-clause-none c = says_nothing c.args.line.now c.headed.result c.in-None.ensures.none c.headed.ensures.none
