use Rattle.std.proofs.Common.{ltb, ltb-true, arith, rules}
use Rattle.std.proofs.lemmas.List.Sorted.{IsPartitionPoint-from_clause, IsPartitionedBy-ltb}
use Rattle.std.proofs.lemmas.Bool.Decides.{nat_tests}
use Rattle.ov_blocks.specs.declared.extents.Extent.{Extent}
use Rattle.ov_blocks.proofs.Places.{rises}
use Rattle.ov_blocks.proofs.free.count_before.Goals as goal

pub returns : goal.returns
returns c =
    let parted = IsPartitionedBy-ltb (λ (e : Extent). e.first) _ c.args.first (rises c.args.held.now c.requires) in
    let point = IsPartitionPoint-from_clause (λ (e : Extent). ltb e.first c.args.first) _ _ c.partition_point.ensures.partitioned parted (λ a r q k. search rules) in
    record {
      inside = c.partition_point.ensures.bound;
      before = λ k d lt. ltb-true _ _ (point.0 k d (omega arith) lt);
      behind = λ k d le lt. let not = point.1 k d le lt in grind (arith, nat_tests, not);
    }
