use Rattle.std.proofs.Common.{arith}
use Rattle.std.specs.Vec.Iter.{into_iter_items, into_iter_len}
use Rattle.ov_state.proofs.RewrittenFiles.{first_there, rewritten_rest}
use Rattle.ov_state.proofs.commit.rewrite_all.Goals as goal

pub rewrite-requires : goal.rewrite-requires
rewrite-requires c =
    first_there c.args.epoch _ c.loop-rewrite.files.files _ (into_iter_items c.loop-rewrite.rewrite-iterator) c.in-Some.rewrite
    (into_iter_items c.next.new.self) (into_iter_len c.loop-rewrite.rewrite-iterator) c.in-Some.ensures.steps.0 c.loop-rewrite.invariant

pub loop-rewrite-preserved : goal.loop-rewrite-preserved
loop-rewrite-preserved c =
    rewritten_rest c.args.epoch _ c.loop-rewrite.files.files c.rewrite.new.self.files _
    (into_iter_items c.loop-rewrite.rewrite-iterator) c.in-Some.rewrite (into_iter_items c.next.new.self) (into_iter_len c.loop-rewrite.rewrite-iterator)
    (into_iter_len c.next.new.self) c.in-Some.ensures.steps.0 c.loop-rewrite.invariant (let gone = c.in-Some.ensures.steps.1 in omega arith) c.rewrite.ensures
