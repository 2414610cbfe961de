use Rattle.std.proofs.Common.{◌≡◌, ◌∙◌, sym, ap}
use Rattle.ov_history.specs.Catalogue.{Filed, outline}
use Rattle.ov_history.specs.Layers.{node_of}
use Rattle.ov_history.proofs.Outlining.{node-shown}
use Rattle.ov_history.specs.Asking.{of_file}
use Rattle.ov_state.specs.Entries.{plain_file}
use Rattle.ov_state.proofs.FilesByNumber.{filed-at}
use Rattle.ov_state.proofs.state.State.told_of_file.Goals as goal

pub returns : goal.returns
returns g c =
    let s = c.args.self.now.catalogue in
    let node : c.entry.result.now.node ≡ node_of (outline s) c.args.file =
    ap (λ (f : Filed). f.node) (sym (filed-at s c.args.file (plain_file c.entry.result.now) c.entry.ensures.kept)) ∙ node-shown s c.args.file in
    ap (λ n. record (of_file s c.args.file) { node = n }) node
