use Rattle.std.proofs.Common.{arith, refl, Some, None}
use Rattle.ov_graph.proofs.ReachLaws.{leads_by_membership}
use Rattle.ov_chain.proofs.ShortestPaths.{shortest_path}
use Rattle.ov_chain.proofs.WayBack.{read_is}
use Rattle.ov_chain.proofs.search.shortest.Goals as goal

pub returns-in-None-clause-held : goal.returns-in-None-clause-held
returns-in-None-clause-held g c user alone =
    let sets = (g.G.Graph.contents c.args.graph.now).sets in
    let none = read_is sets c.args.root c.args.node c.in_ok-distances.distances.items c.index.result.now None c.in_ok-distances.ensures.found (omega (arith, c.in_ok-distances.ensures.length)) c.index.ensures c.in-None.is in
    let reach = leads_by_membership sets c.known.ensures.graph.grown c.args.root c.args.node user c.requires.root c.requires.node alone in
    (λ some. absurd (cc (some)), λ one. absurd (none (reach.1 one)))

pub returns-clause-held : goal.returns-clause-held
returns-clause-held g c user alone =
    let sets = (g.G.Graph.contents c.args.graph.now).sets in
    let found = read_is sets c.args.root c.args.node c.in_ok-distances.distances.items c.index.result.now (Some c.in-Some.far) c.in_ok-distances.ensures.found (omega (arith, c.in_ok-distances.ensures.length)) c.index.ensures c.in-Some.is in
    let reach = leads_by_membership sets c.known.ensures.graph.grown c.args.root c.args.node user c.requires.root c.requires.node alone in
    (λ _. reach.0 (c.in-Some.far, found.0.walk), λ _. refl)

pub returns-clause-shortest : goal.returns-clause-shortest
returns-clause-shortest g c =
    let kind = g.L.Layer.label_kind in
    let graph = g.G.Graph.contents c.args.graph.now in
    let steps = c.in_ok-steps-in-Some.steps in
    let found = read_is graph.sets c.args.root c.args.node c.in_ok-distances.distances.items c.index.result.now (Some c.in-Some.far) c.in_ok-distances.ensures.found (omega (arith, c.in_ok-distances.ensures.length)) c.index.ensures c.in-Some.is in
    shortest_path kind graph c.args.root c.args.node c.in-Some.far steps found.0 c.in_ok-steps-in-Some.ensures

pub returns-clause-edges : goal.returns-clause-edges
returns-clause-edges g c = c.known.ensures.graph.covers

pub returns-in-None-clause-edges : goal.returns-in-None-clause-edges
returns-in-None-clause-edges g c = c.known.ensures.graph.covers
