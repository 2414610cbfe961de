use Rattle.ov_scripting.specs.Performing.{with_epoch}
use Rattle.ov_scripting.proofs.Performed.{epoch_does}
use Rattle.ov_scripting.proofs.performing.epoch.Goals as goal

pub returns-clause-does : goal.returns-clause-does
returns-clause-does g c =
    epoch_does g.P.Peer.tells c.args.owner.now c.args.peer.now c.hello.new.peer c.hello.result
    (with_epoch c.epoch_in.result) c.hello.ensures.asks c.hello.ensures.complete c.epoch_in.ensures
