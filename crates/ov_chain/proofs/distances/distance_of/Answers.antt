use Rattle.std.proofs.Common.{◌<◌, get_or, arith, sym, subst}
use Rattle.ov_base.specs.declared.limits.TheConstants.{MAX_LAYER_NODES}
use Rattle.ov_chain.specs.Distances.{IsFound, distance_at}
use Rattle.ov_chain.proofs.DistanceLaws.{distance_beyond}
use Rattle.ov_chain.proofs.EdgeLaws.{edges_cover, edges_below, start_Contains, found_small, starts_right}
use Rattle.ov_chain.proofs.distances.distance_of.Goals as goal

pub beyond-requires-clause-inside : goal.beyond-requires-clause-inside
beyond-requires-clause-inside g c =
    edges_below (g.G.Graph.contents c.args.graph.now) c.args.node _ c.in_tokens.result.now c.known.ensures.graph c.requires.there c.in_tokens.ensures (omega arith)

pub beyond-requires-clause-small : goal.beyond-requires-clause-small
beyond-requires-clause-small g c k d inside =
    let graph = g.G.Graph.contents c.args.graph.now in
    let es = c.in_tokens.result.now in
    let from = (get_or es k d).from in
    let below : from < MAX_LAYER_NODES = edges_below graph c.args.node _ es c.known.ensures.graph c.requires.there c.in_tokens.ensures (omega arith) k d inside in
    let right = starts_right graph c.args.root c.args.node c.args.distances.now es c.known.ensures.graph c.requires.there c.in_tokens.ensures c.requires.starts in
    found_small graph.sets c.args.root from MAX_LAYER_NODES (distance_at c.args.distances.now from) (right from (start_Contains es k d inside)) below

pub returns : goal.returns
returns g c =
    let graph = g.G.Graph.contents c.args.graph.now in
    let es = c.in_tokens.result.now in
    let right = starts_right graph c.args.root c.args.node c.args.distances.now es c.known.ensures.graph c.requires.there c.in_tokens.ensures c.requires.starts in
    subst (λ o. IsFound graph.sets c.args.root c.args.node o) (sym c.beyond.ensures)
    (distance_beyond graph.sets c.args.root c.args.node c.args.distances.now es (λ e. c.if-node-root.false (sym e)) c.requires.there (edges_cover graph c.args.node es c.known.ensures.graph c.requires.there c.in_tokens.ensures) right)
