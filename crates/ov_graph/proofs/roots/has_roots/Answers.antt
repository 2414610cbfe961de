use Rattle.std.proofs.Common.{◌∙◌, arith, below_more, ap, sym, true≢false}
use Rattle.ov_base.specs.Sets.{single}
use Rattle.ov_graph.specs.Contents.{node_of}
use Rattle.ov_graph.proofs.RootLaws.{no_node, some_node}
use Rattle.ov_graph.proofs.roots.has_roots.Goals as goal
use Rattle.ov_graph.proofs.roots.has_roots.Goals.{else-contains-via-then-contains+else-is_none, else-contains-via-else-contains}

pub returns-then-is_none-clause-no : goal.returns-then-is_none-clause-no
returns-then-is_none-clause-no g c _ rooted =
    let sets = (g.G.Graph.contents c.args.graph.now).sets in
    let user = c.loop-user.user in
    let has = sym c.contains.ensures.member ∙ c.if-contains.true in
    no_node sets (single user) c.find.result c.is_none.result (c.find.ensures ∙ ap (node_of sets) c.alone.ensures)
    c.is_none.ensures c.if-is_none.true (rooted c.loop-user.invariant.several user has)

pub loop-user-preserved : goal.loop-user-preserved
loop-user-preserved g c =
    let sets = (g.G.Graph.contents c.args.graph.now).sets in
    let user = c.loop-user.user in
    record {
      several = c.loop-user.invariant.several;
      rooted = below_more _ _ c.loop-user.invariant.rooted (elim c.else-contains.branch [
        | else-contains-via-then-contains+else-is_none w ↦ λ _.
            some_node sets (single user) w.find.result w.is_none.result (w.find.ensures ∙ ap (node_of sets) w.alone.ensures)
            w.is_none.ensures w.if-is_none.false
        | else-contains-via-else-contains w ↦ λ one. absurd (true≢false (sym one ∙ sym c.contains.ensures.member ∙ w.if-contains.false))
      ]);
      limit = λ _. c.contains.ensures.limit;
    }

pub returns-clause-yes : goal.returns-clause-yes
returns-clause-yes g c _ several user one =
    let w = c.count.ensures.width in
    let limit = c.loop-user.invariant.limit (omega arith) user one in
    c.loop-user.invariant.rooted user (omega arith) one
