use Rattle.std.specs.Prelude.{slice_index}
use Rattle.ov_base_layer.proofs.HolderLaws.{again_held, holders_in-set, with_accesses-append}
use Rattle.ov_base_layer.proofs.laws.holders_grow.Goals as goal

pub returns : goal.returns
returns c = record {
  sets = holders_in-set;
  access = λ sets accesses access node. with_accesses-append accesses access node (slice_index sets node);
  again = again_held;
}
