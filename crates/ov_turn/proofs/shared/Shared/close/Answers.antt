use Rattle.std.proofs.Common.{ap}
use Rattle.ov_turn.specs.Passes.{PassState}
use Rattle.ov_turn.proofs.Dealing.{left_by_all}
use Rattle.ov_turn.proofs.shared.Shared.close.Goals as goal

pub returns : goal.returns
returns g c = left_by_all g.A.Answerer.tells c.args.self c.args.passes.items c.pop.new.self.items
    c.in-Some.last c.last.inside.seat.me.0 c.take_all_in.new.seat.me.0 c.give_up.result
    c.in-Some.ensures.items (ap (λ (p : PassState g.row.A.Denot). p.knowledge) c.last.view_is)
    c.last.invariant.4 c.take_all_in.ensures.all c.give_up.ensures
