use Rattle.std.proofs.Common.{sym, arith, ap, ◌∙◌, ◌+◌, length}
use Rattle.ov_graph.specs.Rows.{row}
use Rattle.ov_graph.specs.Contents.{edges_to}
use Rattle.ov_graph.proofs.RowLaws.{rows-length, rows-at, inside-at}
use Rattle.ov_index.proofs.index.IndexGraphGraph.in_tokens.Goals as goal

pub index-requires : goal.index-requires
index-requires g c =
    let e = ap (λ k. length k.sets) c.self.view_is in
    omega (arith, e, rows-length c.self.inside.edges.items c.self.inside.spans.items, c.self.invariant.list.graph.rows)

pub part-requires : goal.part-requires
part-requires g c =
    let e = ap (λ k. length k.sets) c.self.view_is in
    let w = inside-at _ c.self.inside.spans.items c.args.node c.index.result.now c.self.invariant.list.inside (omega (arith, e, rows-length c.self.inside.edges.items c.self.inside.spans.items, c.self.invariant.list.graph.rows)) in
    let f = ap (λ s. s.first + s.many) c.index.ensures in
    omega (arith, w, f, ap length c.deref.ensures.value)

pub returns : goal.returns
returns g c =
    let e = ap (λ k. length k.sets) c.self.view_is in
    let r = rows-at c.self.inside.edges.items c.self.inside.spans.items c.args.node c.index.result.now (omega (arith, e, rows-length c.self.inside.edges.items c.self.inside.spans.items, c.self.invariant.list.graph.rows)) in
    c.part.ensures ∙ ap (λ es. row es c.index.result.now) c.deref.ensures.value ∙ ap (λ s. row c.self.inside.edges.items s) c.index.ensures ∙ sym r ∙ ap (λ k. edges_to k c.args.node) c.self.view_is
