use Rattle.std.proofs.Common.{rules, ◌≡◌, ◌∙◌, [], length, subst}
use Rattle.ov_turn.specs.Passes.{AreFirst}
use Rattle.ov_host.proofs.SharedValues.{nothing_accepted}
use Rattle.ov_host.proofs.sharing.share.Goals as goal

pub returns-in-Err-new-clause-back : goal.returns-in-Err-new-clause-back
returns-in-Err-new-clause-back g c =
    let tells = g.V.Answerer.tells in
    let shared = c.in-Ok.made.0 in
    let same : c.in-Err-new.failed.value ≡ shared = search rules in
    let start : shared.start ≡ c.args.value = search rules in
    let all : length c.in-Ok.made.1.items ≡ shared.passes = search rules in
    subst (λ v. tells.reached v [] c.close.result) start
    (nothing_accepted tells shared c.in-Ok.made.1.items (search rules) all c.close.result
    (search rules))
