use Rattle.ov_owning.proofs.Tails.{asks_are_no_updates}
use Rattle.ov_owning.proofs.words.update_by.Goals as goal

pub returns-in-None-update_of-clause-none : goal.returns-in-None-update_of-clause-none
returns-in-None-update_of-clause-none c =
    asks_are_no_updates c.in-Some.field-0.act c.args.command.now c.in-Some.field-0.path.now _
    c.in-None-update_of.ensures.none (rw c.in-Some.is at c.in_ok-act.ensures.found)
