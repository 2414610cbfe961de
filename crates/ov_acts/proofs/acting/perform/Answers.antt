use Rattle.std.proofs.Common.{ap, arith, subst, sym}
use Rattle.std.proofs.lemmas.Grind.{common_steps}
use Rattle.ov_acts.proofs.OwnersTold.{told_by_owner}
use Rattle.ov_acts.proofs.Taking.{keys_only}
use Rattle.ov_acts.specs.Causes.{most_keys}
use Rattle.ov_acts.specs.Machine.{ActsAsMachine}
use Rattle.ov_acts.specs.declared.job.Act.{Act}
use Rattle.ov_acts.proofs.acting.perform.Goals as goal

pub returns-in-Read-clause-told : goal.returns-in-Read-clause-told
returns-in-Read-clause-told g c = λ v is.
    subst (λ (act : Act). ActsAsMachine act (g.K.Source.tells.left c.args.keys.now)
    (g.B.Source.tells.left c.args.body.now) v (g.P.Peer.tells.serves c.read.new.peer) c.read.result)
    (sym c.in-Read.is) (c.read.ensures.told v is)

pub returns-in-Enrol-clause-told : goal.returns-in-Enrol-clause-told
returns-in-Enrol-clause-told g c = λ v is.
    let which = c.in-Enrol.is in
    told_by_owner c.args.act.now (g.K.Source.tells.left c.args.keys.now) (g.B.Source.tells.left c.args.body.now)
    v (g.P.Peer.tells.serves c.own.new.peer) c.own.result (grind (arith, common_steps))
    (c.own.ensures.told v is)

pub returns-in-Check-clause-files : goal.returns-in-Check-clause-files
returns-in-Check-clause-files g c =
    keys_only g.K.Source.tells g.B.Source.tells c.args.act.now 131
    _ _ _ (ap most_keys c.in-Check.is) c.check.ensures.takes

pub returns-in-Read-clause-files : goal.returns-in-Read-clause-files
returns-in-Read-clause-files g c =
    keys_only g.K.Source.tells g.B.Source.tells c.args.act.now 208
    _ _ _ (ap most_keys c.in-Read.is) c.read.ensures.takes
