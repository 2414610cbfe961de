use Rattle.std.proofs.Common.{rules, subst, sym}
use Rattle.ov_turn.specs.Passes.{SharedState}
use Rattle.ov_turn.specs.Steps.{IsUnasked}
use Rattle.ov_turn.proofs.Cutting.{cuts}
use Rattle.ov_turn.proofs.shared.Shared.cut.Goals as goal

pub split_seat-requires : goal.split_seat-requires
split_seat-requires g c =
    let tells = g.A.Answerer.tells in
    let key = c.self.inside.table.shared.key in
    let first : IsUnasked tells key.start.value c.args.seat.now.me =
    subst (λ (s : SharedState g.row.A.Denot). IsUnasked tells s.start c.args.seat.now.me)
    (sym c.self.view_is) c.requires.first in (
      search rules,
      search rules,
      cuts tells key.start.value key.passes _ c.args.seat.now.me first c.requires.several,
    )
