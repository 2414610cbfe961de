use Rattle.ov_session.proofs.Replying.{counts_loss}
use Rattle.ov_session.proofs.peer.NetPeerPeer.ask.Goals as goal

pub returns-in-Some-clause-cause : goal.returns-in-Some-clause-cause
returns-in-Some-clause-cause g c =
    counts_loss c.args.self.now.faults c.lose.new.self.faults c.in-Some.fault c.lose.ensures.counted c.lose.ensures.later

pub returns-in-Err-clause-cause : goal.returns-in-Err-clause-cause
returns-in-Err-clause-cause g c =
    let lost = c.lose-in-Err.ensures in
    counts_loss c.args.self.now.faults c.lose-in-Err.new.self.faults c.in-Err.fault lost.counted lost.later
