use Rattle.std.proofs.Common.{suc, ◌-◌, ◌≡◌, ◌<◌, ◌++◌, ◌∷◌, ◌∙◌, [], length, List, arith, ap, sym, subst}
use Rattle.ov_tokens.specs.declared.chain.Step.{Step}
use Rattle.ov_graph.specs.Chain.{IsDistance, IsChosen}
use Rattle.ov_chain.proofs.DistanceLaws.{first_there}
use Rattle.ov_chain.proofs.EdgeLaws.{edges_cover, edges_below}
use Rattle.ov_chain.proofs.WayBack.{IsBack, back_more, back_end, starts_found}
use Rattle.ov_chain.proofs.search.steps_back.Goals as goal

pub first_at-requires : goal.first_at-requires
first_at-requires g c =
    edges_below (g.G.Graph.contents c.args.graph.now) c.loop-left.here _ c.in_tokens.result.now c.known.ensures.graph
    (omega (arith, c.requires.there, c.loop-left.invariant.low)) c.in_tokens.ensures (omega (arith, c.requires.room, c.loop-left.invariant.low))

pub unreachable-requires : goal.unreachable-requires
unreachable-requires g c =
    let graph = g.G.Graph.contents c.args.graph.now in
    let here = c.loop-left.here in
    let es = c.in_tokens.result.now in
    let back = c.loop-left.invariant in
    let inside : here < length graph.sets = omega (arith, c.requires.there, back.low) in
    let covers = edges_cover graph here es c.known.ensures.graph inside c.in_tokens.ensures in
    let right = starts_found graph.sets c.args.root c.args.node here c.args.distances.now es c.requires.found inside covers back.leads in
    let step : c.loop-left.left ≡ suc (c.loop-left.left - 1) = omega arith in
    first_there graph.sets c.args.root here (c.loop-left.left - 1) c.args.distances.now es covers right
    (subst (λ k. IsDistance graph.sets c.args.root here k) step back.near) (sym c.first_at.ensures ∙ c.in_default.is)

pub loop-left-preserved : goal.loop-left-preserved
loop-left-preserved g c =
    let graph = g.G.Graph.contents c.args.graph.now in
    let kind = g.L.Layer.label_kind in
    let here = c.loop-left.here in
    let left = c.loop-left.left - 1 in
    let es = c.in_tokens.result.now in
    let edge = c.in-Some.edge in
    let back = c.loop-left.invariant in
    let behind = c.loop-left.steps.items in
    let inside : here < length graph.sets = omega (arith, c.requires.there, back.low) in
    let covers = edges_cover graph here es c.known.ensures.graph inside c.in_tokens.ensures in
    let right = starts_found graph.sets c.args.root c.args.node here c.args.distances.now es c.requires.found inside covers back.leads in
    let step : c.loop-left.left ≡ suc left = omega arith in
    let pushed = c.in_ok-push.ensures.items ∙ ap (λ l. behind ++ record { to = l; token = edge.token } ∷ []) c.label.ensures in
    subst (λ (s : List Step). IsBack kind graph c.args.root c.args.node c.args.far edge.from left s) (sym pushed)
    (back_more kind graph c.args.root c.args.node c.args.far here left behind c.args.distances.now es edge inside c.in_tokens.ensures covers right (sym c.first_at.ensures ∙ c.in-Some.is)
    (subst (λ k. IsBack kind graph c.args.root c.args.node c.args.far here k behind) step back))

pub returns : goal.returns
returns g c =
    let graph = g.G.Graph.contents c.args.graph.now in
    let kind = g.L.Layer.label_kind in
    let behind = c.loop-left.steps.items in
    let none : c.loop-left.left ≡ 0 = omega arith in
    let chosen = back_end kind graph c.args.root c.args.node c.args.far c.loop-left.here behind
    (subst (λ k. IsBack kind graph c.args.root c.args.node c.args.far c.loop-left.here k behind) none c.loop-left.invariant) in
    subst (λ (s : List Step). IsChosen kind graph c.args.root c.args.node c.args.far s) (sym (c.from_vec.ensures ∙ c.reverse.ensures.items)) chosen
