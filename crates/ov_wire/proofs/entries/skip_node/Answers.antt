use Rattle.ov_wire.proofs.EntryLaws.{rest-node}
use Rattle.ov_wire.proofs.entries.skip_node.Goals as goal

pub returns : goal.returns
returns c = rw (rest-node c.args.bytes.now c.in_ok-rest.rest.now c.in_ok-rest.field-0-0.now c.in_ok-rest.ensures.read) c.skip_edges.ensures
