use Rattle.std.proofs.Common.{ap, ◌∙◌, subst, List}
use Rattle.std.specs.Prelude.{Option}
use Rattle.ov_history.specs.Catalogue.{Filed}
use Rattle.ov_state.specs.Entries.{plain_files, AreOfNode, FileList}
use Rattle.ov_state.proofs.FilesByNode.{by_node-held}
use Rattle.ov_state.proofs.files.Files.of_node.Goals as goal

pub files_of_node-requires : goal.files_of_node-requires
files_of_node-requires c =
    by_node-held c.self.inside.list.items c.deref.result.now c.self.inside.by_node.items c.deref-2.result.now c.deref.ensures.value c.deref-2.ensures.value
    c.self.invariant.1

pub returns : goal.returns
returns c =
    subst (λ (fs : List (Option Filed)). AreOfNode fs c.args.node c.files_of_node.result.now)
    (ap plain_files c.deref.ensures.value ∙ ap (λ (l : FileList). l.files) c.self.view_is) c.files_of_node.ensures
