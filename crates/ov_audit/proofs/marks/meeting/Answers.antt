use Rattle.std.proofs.Common.{◌∙◌, ◌++◌, ◌∷◌, [], ◌<◌, ℕ, Bool, List, length, get_or, map, ap, sym, arith}
use Rattle.std.proofs.lemmas.List.{map_more, take_all}
use Rattle.ov_base.specs.Sets.{meets}
use Rattle.ov_audit.proofs.marks.meeting.Goals as goal

pub loop-node-preserved : goal.loop-node-preserved
loop-node-preserved g c =
    let users = c.args.users.now in
    let sets = (g.G.Graph.contents c.args.graph.now).sets in
    let inside : c.loop-node.node < length sets = omega (arith, c.count-node-end.ensures.nodes) in
    c.in_ok-push.ensures.items
    ∙ ap (λ b. c.loop-node.marks.items ++ b ∷ []) (c.meets.ensures ∙ ap (meets users) c.set_of.ensures)
    ∙ ap (λ (bs : List Bool). bs ++ meets users (get_or sets c.loop-node.node 0) ∷ [])
    c.loop-node.invariant
    ∙ sym (map_more (meets users) sets c.loop-node.node 0 inside)

pub returns : goal.returns
returns g c =
    let users = c.args.users.now in
    let sets = (g.G.Graph.contents c.args.graph.now).sets in
    c.loop-node.invariant
    ∙ ap (λ (xs : List ℕ). map (meets users) xs)
    (take_all c.loop-node.node sets (omega (arith, c.count-node-end.ensures.nodes)))
