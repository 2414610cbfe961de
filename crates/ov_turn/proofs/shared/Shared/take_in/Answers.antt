use Rattle.std.proofs.Common.{rules}
use Rattle.ov_turn.proofs.Joining.{joins}
use Rattle.ov_turn.proofs.shared.Shared.take_in.Goals as goal

pub join_seat-requires : goal.join_seat-requires
join_seat-requires g c = (
  search rules,
  search rules,
  search rules,
  search rules,
  joins g.A.Answerer.tells c.self.inside.table.shared.key.start.value
      c.self.inside.table.shared.key.passes _ _ _ _ c.requires.own.1 c.requires.other.1
      c.requires.own.3 c.requires.other.3,
)
