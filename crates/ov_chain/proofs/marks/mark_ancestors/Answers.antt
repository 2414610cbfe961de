use Rattle.std.proofs.Common.{◌+◌, ◌-◌, ◌<◌, ◌≡◌, length, arith, sym, subst, Bool, true, List}
use Rattle.std.proofs.lemmas.List.{length-set}
use Rattle.ov_chain.specs.Marks.{IsMarked}
use Rattle.ov_chain.proofs.MarkLaws.{IsClosedFrom, marked-keeps, closed_more}
use Rattle.ov_chain.proofs.EdgeLaws.{edges_cover, edges_below}
use Rattle.ov_chain.proofs.marks.mark_ancestors.Goals as goal

pub mark_starts-requires : goal.mark_starts-requires
mark_starts-requires g c =
    edges_below (g.G.Graph.contents c.args.graph.now) (c.loop-n.n - 1) _ c.in_tokens.result.now c.known.ensures.graph (omega arith) c.in_tokens.ensures (omega (arith, length-set c.args.marks.now c.args.node true))

pub loop-n-preserved-then-marks-n : goal.loop-n-preserved-then-marks-n
loop-n-preserved-then-marks-n g c =
    let graph = g.G.Graph.contents c.args.graph.now in
    let n = c.loop-n.n - 1 in
    let es = c.in_tokens.result.now in
    let marks = c.loop-n.marks in
    let inside : n < length graph.sets = omega arith in
    let within : n < length marks = omega (arith, length-set c.args.marks.now c.args.node true) in
    let step : c.loop-n.n ≡ n + 1 = omega arith in
    let covers = edges_cover graph n es c.known.ensures.graph inside c.in_tokens.ensures in
    let closed = closed_more graph.sets n es marks covers within (subst (λ k. IsClosedFrom graph.sets k marks) step c.loop-n.invariant.closed) in
    record {
      marked = subst (λ (m : List Bool). IsMarked m c.args.node) (sym c.mark_starts.ensures) (marked-keeps es marks c.args.node c.loop-n.invariant.marked);
      closed = subst (λ (m : List Bool). IsClosedFrom graph.sets n m) (sym c.mark_starts.ensures) closed;
    }
