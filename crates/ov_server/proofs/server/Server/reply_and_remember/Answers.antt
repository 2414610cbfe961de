use Rattle.std.proofs.Common.{◌∙◌, subst, sym}
use Rattle.ov_state.specs.Remembering.{IsPlannedIn}
use Rattle.ov_store.specs.Opened.{Opened}
use Rattle.ov_server.proofs.server.Server.reply_and_remember.Goals as goal

pub remember-requires : goal.remember-requires
remember-requires g c =
    subst (λ (o : Opened g.row.D.Denot). IsPlannedIn o.catalogue.base.sets c.in-Some.planned)
    (sym c.self.view_is)
    (c.in-Some.ensures.right c.args.self.now.catalogue.base.sets c.requires.plan)

pub returns-in-Some-clause-same : goal.returns-in-Some-clause-same
returns-in-Some-clause-same g c = c.remember.ensures ∙ c.self.view_is
