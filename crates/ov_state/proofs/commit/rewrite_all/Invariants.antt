use Rattle.std.specs.Vec.Iter.{into_iter_items, into_iter_len}
use Rattle.ov_state.proofs.RewrittenFiles.{AreLeft}
use Rattle.ov_state.proofs.commit.rewrite_all.Given as goal

abbrev pub invariant-loop-rewrite : goal.invariant-loop-rewrite
invariant-loop-rewrite l =
    AreLeft l.epoch l.initial.files.files l.files.files (into_iter_items l.initial.rewrite-iterator)
    (into_iter_items l.rewrite-iterator) (into_iter_len l.rewrite-iterator)
