use Rattle.ov_state.proofs.FilesByNumber.{plain-got, plain-missed}
use Rattle.ov_state.proofs.by_node.entry_at.Goals as goal

pub returns-in-Some : goal.returns-in-Some
returns-in-Some c =
    plain-got c.args.list.now c.args.number c.get.result c.in-Some.entry c.as_ref.result c.get.ensures.lookup.0 c.get.ensures.lookup.1 c.in-Some.is
    c.as_ref.ensures.value

pub returns-in-None : goal.returns-in-None
returns-in-None c = plain-missed c.args.list.now c.args.number c.get.result c.get.ensures.lookup.0 c.in-None.is
