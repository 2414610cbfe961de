use Rattle.std.proofs.Common.{◌≤◌, ◌+◌, arith, subst}
use Rattle.ov_state.specs.Entries.{plain_files, IsCountBelow}
use Rattle.ov_state.proofs.FilesByNode.{counts-rise, of_node-between}
use Rattle.ov_state.proofs.by_node.files_of_node.Goals as goal

first : (c : goal.After-result-1) → IsCountBelow (plain_files c.args.list.now) c.args.node c.args.numbers.now c.count_below-from.result
first c =
    subst (λ n. IsCountBelow (plain_files c.args.list.now) n c.args.numbers.now c.count_below-from.result) c.from-node.ensures
    c.count_below-from.ensures

second : (c : goal.After-result-1) → IsCountBelow (plain_files c.args.list.now) (c.args.node + 1) c.args.numbers.now c.count_below-to.result
second c =
    subst (λ n. IsCountBelow (plain_files c.args.list.now) (n + 1) c.args.numbers.now c.count_below-to.result) c.from-node.ensures
    c.count_below-to.ensures

pub slice_bounds-result-count : goal.slice_bounds-result-count
slice_bounds-result-count c =
    counts-rise (plain_files c.args.list.now) c.from-node.result c.args.numbers.now c.count_below-from.result c.count_below-to.result c.count_below-from.ensures c.count_below-to.ensures

pub slice_bounds-result-start : goal.slice_bounds-result-start
slice_bounds-result-start c =
    let rise : c.count_below-from.result ≤ c.count_below-to.result =
    counts-rise (plain_files c.args.list.now) c.from-node.result c.args.numbers.now c.count_below-from.result c.count_below-to.result c.count_below-from.ensures c.count_below-to.ensures in
    omega (arith, c.count_below-to.ensures.inside)

pub returns : goal.returns
returns c =
    of_node-between (plain_files c.args.list.now) c.args.node c.args.numbers.now c.count_below-from.result c.count_below-to.result (first c) (second c) c.requires
