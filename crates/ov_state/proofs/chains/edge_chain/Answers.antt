use Rattle.std.proofs.Common.{◌≡◌, ◌∙◌, sym, subst}
use Rattle.ov_graph.specs.Chain.{IsChain}
use Rattle.ov_state.specs.Contents.{nodes_of}
use Rattle.ov_history.specs.Chains.{graph_of}
use Rattle.ov_state.proofs.ChainLaws.{chain_of}
use Rattle.ov_state.proofs.chains.edge_chain.Goals as goal

pub returns : goal.returns
returns g c =
    let graph = g.G.Graph.contents c.args.graph.now in
    let root : c.in-Some.chain.root ≡ c.root-root.result = rw c.in-Some.is at c.in_ok-chain.ensures.root in
    let is = rw c.in-Some.is at c.in_ok-chain.ensures.chain in (
      root ∙ c.root-root.ensures.root,
      subst (λ n. IsChain g.L.Layer.label_kind (graph_of (nodes_of graph)) n c.args.node c.in-Some.chain.steps) (sym root)
          (chain_of g.L.Layer.label_kind graph c.root-root.result c.args.node c.in-Some.chain.steps is),
    )
