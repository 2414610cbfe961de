use Rattle.std.proofs.Common.{subst}
use Rattle.ov_state.specs.Contents.{Held}
use Rattle.ov_state.specs.Entries.{AreOfNode}
use Rattle.ov_state.proofs.state.State.files_of_node.Goals as goal

pub returns : goal.returns
returns g c =
    subst (λ (h : Held). AreOfNode h.catalogue.files c.args.node c.of_node.result.now) c.self.view_is c.of_node.ensures
