use Rattle.std.proofs.Common.{◌∙◌, ap, arith, length}
use Rattle.ov_graph.specs.Contents.{Contents}
use Rattle.ov_history.specs.Catalogue.{Nodes}
use Rattle.ov_audit.proofs.MarkLaws.{marks_are, nodes_marked, written_back}
use Rattle.ov_audit.proofs.marks.Marks.of.Goals as goal

pub mark_accesses-requires : goal.mark_accesses-requires
mark_accesses-requires c =
    let s = c.args.state.now.catalogue in (
      omega arith,
      nodes_marked c.args.users.now s _ c.accesses.result.now c.deref_mut.result.now
          c.known.ensures.sound
          (ap (λ (graph : Contents). graph.sets) c.graph.ensures
          ∙ ap (λ (nodes : Nodes). nodes.sets) c.base-base.ensures.nodes)
          (c.accesses.ensures ∙ c.base-base.ensures.grants)
          (c.deref_mut.ensures.value ∙ c.in_ok-held.ensures),
    )

pub returns : goal.returns
returns c =
    let s = c.args.state.now.catalogue in
    let held = c.in_ok-held.held in
    let marks = c.mark_accesses.new.marks in
    let both =
    marks_are c.args.users.now s _ _ c.accesses.result.now c.deref_mut.result.now marks
    c.in_ok-covered.covered.items
    (ap (λ (graph : Contents). graph.sets) c.graph.ensures
    ∙ ap (λ (nodes : Nodes). nodes.sets) c.base-base.ensures.nodes)
    (ap (λ (nodes : Nodes). nodes.sets) c.surface.ensures)
    (c.accesses.ensures ∙ c.base-base.ensures.grants)
    (c.deref_mut.ensures.value ∙ c.in_ok-held.ensures) c.mark_accesses.ensures
    c.in_ok-covered.ensures in (
      written_back held.len marks held.items
          (omega (arith, held.ok, c.mark_accesses.auto.marks, ap length c.deref_mut.ensures.value))
          ∙ both.0,
      both.1,
    )
