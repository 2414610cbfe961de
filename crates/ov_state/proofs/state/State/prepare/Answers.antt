use Rattle.std.proofs.Common.{◌*◌}
use Rattle.std.specs.Prelude.{Ok, Err}
use Rattle.ov_state.specs.Plans.{plain_brief}
use Rattle.ov_state.proofs.HistoryLaws.{answered_by}
use Rattle.ov_state.proofs.WithinLimits.{within_limits}
use Rattle.ov_state.proofs.state.State.prepare.Goals as goal

pub returns-in-Ok-make_room-clause-limits : goal.returns-in-Ok-make_room-clause-limits
returns-in-Ok-make_room-clause-limits g c =
    within_limits (64 * g.row.W) c.args.self.now.catalogue (plain_brief c.args.brief) c.known.ensures c.requires c.in-Ok.ensures.taken

pub returns-in-Ok-make_room-clause-history : goal.returns-in-Ok-make_room-clause-history
returns-in-Ok-make_room-clause-history g c =
    answered_by {W = g.row.W} (64 * g.row.W) c.args.surface.now.bytes c.args.self.now.catalogue (plain_brief c.args.brief) (Ok c.in-Ok.change) c.in-Ok.ensures

pub returns-in-Err-clause-history : goal.returns-in-Err-clause-history
returns-in-Err-clause-history g c =
    answered_by {W = g.row.W} (64 * g.row.W) c.args.surface.now.bytes c.args.self.now.catalogue (plain_brief c.args.brief) (Err c.in-Err.fault) c.in-Err.ensures
