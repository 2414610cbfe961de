use Rattle.std.specs.Vec.Iter.{into_iter_items, into_iter_len}
use Rattle.ov_state.proofs.Adding.{IsLeft}
use Rattle.ov_state.proofs.commit.add_surfaces.Given as goal

abbrev pub invariant-loop-one : goal.invariant-loop-one
invariant-loop-one g l =
    IsLeft (g.S.Graph.contents l.initial.graph) (g.S.Graph.contents l.graph) (into_iter_items l.initial.one-iterator)
    (into_iter_items l.one-iterator) (into_iter_len l.one-iterator)
