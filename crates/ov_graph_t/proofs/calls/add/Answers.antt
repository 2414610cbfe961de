use Rattle.std.proofs.Common.{◌≡◌, List, length, sym, subst, ◌∙◌, ap, arith, rules}
use Rattle.ov_tokens.specs.declared.token.Token.{Token}
use Rattle.ov_graph.specs.Contents.{Contents}
use Rattle.ov_graph_t.specs.Calls.{IsAdded}
use Rattle.ov_graph_t.proofs.CallLaws.{added_at_end}
use Rattle.ov_graph_t.proofs.calls.add.Goals as goal

pub returns : goal.returns
returns g c =
    let old : Contents = g.G.Graph.contents c.args.graph.now in
    let each : length c.in_ok-tokens.tokens ≡ length c.in_ok-cover.cover.from =
    ap length c.in_ok-tokens.ensures ∙ ap length (sym c.as_slice-else-not-cover.ensures) ∙ omega arith ∙ ap length c.as_slice.ensures in
    subst (λ (ts : List Token). IsAdded c.args.set.now ts old (g.G.Graph.contents c.add.new.self)) c.in_ok-tokens.ensures
    (added_at_end c.args.set.now c.in_ok-tokens.tokens c.in_ok-cover.cover old (g.G.Graph.contents c.reserve.new.self) (g.G.Graph.contents c.add.new.self)
    c.in_ok-cover.ensures.cover (search rules) (c.has_roots.ensures.yes (search rules)) each c.reserve.ensures.sets c.reserve.ensures.edges c.add.ensures.sets c.add.ensures.edges)
