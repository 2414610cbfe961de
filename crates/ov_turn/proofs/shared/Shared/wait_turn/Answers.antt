use Rattle.std.proofs.Common.{rules, ◌≡◌, ap, subst, ◌∙◌}
use Rattle.ov_turn.specs.Steps.{SeatState, Takes}
use Rattle.ov_turn.proofs.Looking.{looks}
use Rattle.ov_turn.proofs.shared.Shared.wait_turn.Goals as goal

pub load-served-requires : goal.load-served-requires
load-served-requires g c =
    let same = c.loop.invariant.1 in (
      search rules,
      search rules,
      looks g.A.Answerer.tells c.self.inside.table.shared.key.start.value
          c.self.inside.table.shared.key.passes _ _ _ c.args.ticket
          (ap (λ m. m.0.stage) same ∙ c.requires.waits.0)
          (ap (λ m. m.1) same ∙ c.requires.waits.1),
    )

pub returns-then-served-ticket-clause-takes : goal.returns-then-served-ticket-clause-takes
returns-then-served-ticket-clause-takes g c =
    let same = c.loop.invariant.1 in
    let hit : c.load-served.result ≡ c.args.ticket = search rules in
    let took = (c.load-served.ensures.2 c.args.ticket
    (ap (λ m. m.0.stage) same ∙ c.requires.waits.0)
    (ap (λ m. m.1) same ∙ c.requires.waits.1)).0 hit in
    subst (λ (m : SeatState g.row.A.Denot).
    Takes g.A.Answerer.tells c.args.ticket m c.load-served.new.seat.me)
    same took
