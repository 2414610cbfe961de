use Rattle.ov_script.proofs.Fronts.{finds_cut}
use Rattle.ov_script.proofs.find.at_end.Goals as goal

pub returns-else-count-eq0-clause-found : goal.returns-else-count-eq0-clause-found
returns-else-count-eq0-clause-found c = λ room bytes left size unsettled end. finds_cut room _ bytes left c.if-count-eq0.false size unsettled end
