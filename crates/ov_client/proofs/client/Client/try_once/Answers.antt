use Rattle.std.proofs.Common.{[]}
use Rattle.ov_client.specs.Talks.{AsksChain, goes_on}
use Rattle.ov_client.specs.Tries.{after_tried}
use Rattle.ov_client.proofs.Talking.{behind}
use Rattle.ov_client.proofs.client.Client.try_once.Goals as goal

pub returns-in-Ok-clause-talk : goal.returns-in-Ok-clause-talk
returns-in-Ok-clause-talk g c = λ tries.
    let r = c.args.self.now in
    behind g.P.Peer.tells r c.args.file.now c.args.peer.now c.ask_chain.new.peer
    c.read_along.new.peer
    (AsksChain tries c.args.least) (goes_on r tries c.in-Ok.chained []) (after_tried tries)
    c.read_along.result
    (c.in-Ok.ensures.talk tries) (c.read_along.ensures.talk c.args.file.now tries)
