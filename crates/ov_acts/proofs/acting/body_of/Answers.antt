use Rattle.std.proofs.Common.{arith}
use Rattle.std.proofs.lemmas.Grind.{common_steps}
use Rattle.ov_acts.proofs.Taking.{stored_takes}
use Rattle.ov_acts.proofs.acting.body_of.Goals as goal

pub returns-in-Create-clause-takes : goal.returns-in-Create-clause-takes
returns-in-Create-clause-takes g c =
    let which = c.in-Create.is in
    stored_takes _ _ c.args.act.now (grind (arith, common_steps)) c.bytes_of.ensures.takes
