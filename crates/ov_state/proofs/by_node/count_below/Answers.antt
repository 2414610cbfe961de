use Rattle.std.proofs.Common.{ltb, ltb-true, arith, rules}
use Rattle.std.proofs.lemmas.List.Sorted.{IsPartitionPoint-from_clause, IsPartitionedBy-ltb}
use Rattle.std.proofs.lemmas.Bool.Decides.{nat_tests}
use Rattle.ov_state.specs.Entries.{node_at, plain_files}
use Rattle.ov_state.proofs.FilesByNode.{nodes-rise}
use Rattle.ov_state.proofs.by_node.count_below.Goals as goal

pub returns : goal.returns
returns c =
    let files = plain_files c.args.list.now in
    let parted = IsPartitionedBy-ltb (node_at files) _ c.args.node (nodes-rise files c.args.numbers.now c.requires) in
    let point = IsPartitionPoint-from_clause (λ n. ltb (node_at files n) c.args.node) _ _ c.partition_point.ensures.partitioned parted (λ a r q k. search rules) in
    record {
      inside = c.partition_point.ensures.bound;
      below = λ i lt. ltb-true _ _ (point.0 i 0 (omega arith) lt);
      behind = λ i le lt. let not = point.1 i 0 le lt in grind (arith, nat_tests, not);
    }
