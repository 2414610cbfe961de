use Rattle.std.proofs.Common.{◌∙◌, ap, sym, Bor}
use Rattle.std.specs.Prelude.{option_map, unwrap_or, Option}
use Rattle.ov_state.specs.Entries.{plain_files}
use Rattle.ov_state.specs.declared.files.FileEntry.{FileEntry}
use Rattle.ov_state.proofs.FilesByNode.{node-got}
use Rattle.ov_state.proofs.by_node.node_at.Goals as goal

pub returns-in-Some : goal.returns-in-Some
returns-in-Some c =
    ap (λ (r : Option (Bor FileEntry)). unwrap_or (option_map (λ (f : Bor FileEntry). f.now.node) r) 0) (sym c.in-Some.is)
    ∙ node-got (plain_files c.args.list.now) c.args.number c.entry_at.result c.entry_at.ensures

pub returns-in-None : goal.returns-in-None
returns-in-None c =
    ap (λ (r : Option (Bor FileEntry)). unwrap_or (option_map (λ (f : Bor FileEntry). f.now.node) r) 0) (sym c.in-None.is)
    ∙ node-got (plain_files c.args.list.now) c.args.number c.entry_at.result c.entry_at.ensures
