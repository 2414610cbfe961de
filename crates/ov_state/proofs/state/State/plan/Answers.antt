use Rattle.std.proofs.Common.{◌*◌, sym, subst}
use Rattle.ov_record.specs.declared.brief.Brief.{Brief}
use Rattle.ov_state.specs.Plans.{plain_brief, Prepares}
use Rattle.ov_state.proofs.state.State.plan.Goals as goal

pub returns-in-Enrol : goal.returns-in-Enrol
returns-in-Enrol g c =
    subst (λ (u : Brief g.row.W). Prepares (64 * g.row.W) c.args.surface.now.bytes c.args.self.now.catalogue (plain_brief u) c.plan_enrol.result) (sym c.in-Enrol.is)
    (c.plan_enrol.ensures c.args.surface.now.bytes)

pub returns-in-Remove : goal.returns-in-Remove
returns-in-Remove g c =
    subst (λ (u : Brief g.row.W). Prepares (64 * g.row.W) c.args.surface.now.bytes c.args.self.now.catalogue (plain_brief u) c.plan_remove.result) (sym c.in-Remove.is)
    (c.plan_remove.ensures c.args.surface.now.bytes)
