use Rattle.ov_script.proofs.Fronts.{finds_no_line}
use Rattle.ov_script.proofs.find.line_at.Goals as goal

pub returns-in-None-clause-found : goal.returns-in-None-clause-found
returns-in-None-clause-found c = λ room left within.
    let r = c.requires in
    let none = rw c.in-None.is at c.in_ok-said.ensures.none in
    finds_no_line room _ _ _ _ left r.2 r.3 r.4 within (rw c.split_at.ensures.front at none)
