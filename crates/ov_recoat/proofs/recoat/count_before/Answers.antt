use Rattle.std.proofs.Common.{ltb, ltb-true, arith, rules}
use Rattle.std.proofs.lemmas.List.Sorted.{IsPartitionPoint-from_clause, IsPartitionedBy-ltb}
use Rattle.std.proofs.lemmas.Bool.Decides.{nat_tests}
use Rattle.ov_state.specs.declared.change.Rewrite.{Rewrite}
use Rattle.ov_recoat.proofs.Finding.{rises}
use Rattle.ov_recoat.proofs.recoat.count_before.Goals as goal

pub returns : goal.returns
returns c =
    let parted = IsPartitionedBy-ltb (λ (r : Rewrite). r.file) _ c.args.file (rises c.args.rewrites.now c.requires) in
    let point = IsPartitionPoint-from_clause (λ (r : Rewrite). ltb r.file c.args.file) _ _ c.partition_point.ensures.partitioned parted (λ a r q k. search rules) in
    record {
      inside = c.partition_point.ensures.bound;
      before = λ k d lt. ltb-true _ _ (point.0 k d (omega arith) lt);
      behind = λ k d le lt. let not = point.1 k d le lt in grind (arith, nat_tests, not);
    }
