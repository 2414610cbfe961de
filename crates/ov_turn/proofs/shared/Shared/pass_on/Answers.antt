use Rattle.std.proofs.Common.{rules}
use Rattle.ov_turn.proofs.Passing.{passes_on}
use Rattle.ov_turn.proofs.shared.Shared.pass_on.Goals as goal

pub fetch_add-requires : goal.fetch_add-requires
fetch_add-requires g c =
    let v = c.requires.value in (
      search rules,
      search rules,
      passes_on g.A.Answerer.tells c.self.inside.table.shared.key.start.value
          c.self.inside.table.shared.key.passes _ _ c.args.seat.now.me g.N.Failing.failed v.0 v.1
          c.requires.serves v.2 v.3 v.4
          (c.requires.stuck v.1 v.3),
    )
