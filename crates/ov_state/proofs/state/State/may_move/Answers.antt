use Rattle.ov_state.proofs.ChangedWants.{moves-by}
use Rattle.ov_state.proofs.state.State.may_move.Goals as goal

pub returns-else-file-relisting : goal.returns-else-file-relisting
returns-else-file-relisting g c =
    moves-by c.args.self.now.catalogue c.args.relisting.now c.args.file c.args.entry.now c.requires.kept _ c.known.ensures
    c.requires.relisting c.requires.node c.if-file-relisting.false c.is_none.result c.is_none.ensures
