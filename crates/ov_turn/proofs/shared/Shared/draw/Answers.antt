use Rattle.std.proofs.Common.{rules}
use Rattle.ov_turn.proofs.Drawing.{draws}
use Rattle.ov_turn.proofs.shared.Shared.draw.Goals as goal

pub fetch_add-requires : goal.fetch_add-requires
fetch_add-requires g c = (
  search rules,
  search rules,
  draws g.A.Answerer.tells c.self.inside.table.shared.key.start.value
      c.self.inside.table.shared.key.passes _ _ c.args.seat.now.me c.requires.idle.0 c.requires.idle.1 c.requires.left,
)
