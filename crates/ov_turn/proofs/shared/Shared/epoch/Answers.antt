use Rattle.std.proofs.Common.{rules}
use Rattle.ov_turn.proofs.Reading.{reads}
use Rattle.ov_turn.proofs.shared.Shared.epoch.Goals as goal

pub load-requires : goal.load-requires
load-requires g c = (
  search rules,
  search rules,
  reads g.A.Answerer.tells c.self.inside.table.shared.key.start.value
      c.self.inside.table.shared.key.passes _ _ _ (search rules),
)
