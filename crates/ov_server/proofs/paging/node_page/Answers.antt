use Rattle.std.proofs.Common.{◌∙◌, ◌<◌, ◌++◌, List, length, ap, arith, rules, subst}
use Rattle.ov_base.specs.declared.limits.TheConstants.{SET_BYTES}
use Rattle.ov_fields.specs.Entries.{node_entry}
use Rattle.ov_state.specs.Contents.{nodes_of}
use Rattle.ov_tokens.specs.declared.edge.Edge.{Edge}
use Rattle.ov_server.specs.Telling.{LeadByTokens}
use Rattle.ov_server.proofs.PageForms.{node_form, pages_node}
use Rattle.ov_server.proofs.paging.node_page.Goals as goal

pub node_entry-requires : goal.node_entry-requires
node_entry-requires g c =
    let nodes = nodes_of (g.G.Graph.contents c.args.graph.now) in
    let there : c.args.number < length nodes.sets =
    omega (arith, c.if-count-number.false, c.count.ensures.nodes) in
    let form =
    node_form nodes c.args.number c.requires there
    (subst LeadByTokens c.in_tokens-edges.ensures c.edges_have_tokens.ensures) in (
      search rules,
      (search rules, omega (arith, form.1, ap (λ (l : List Edge). length l) c.in_tokens-edges.ensures)),
    )

pub returns : goal.returns
returns g c =
    let nodes = nodes_of (g.G.Graph.contents c.args.graph.now) in
    let there : c.args.number < length nodes.sets =
    omega (arith, c.if-count-number.false, c.count.ensures.nodes) in
    pages_node nodes c.args.number c.from_vec.result c.requires there
    (subst LeadByTokens c.in_tokens-edges.ensures c.edges_have_tokens.ensures)
    (c.from_vec.ensures ∙ c.in_ok-node_entry.ensures.ok
    ∙ (λ i.
    c.new-bytes.ensures.items i
    ++ node_entry SET_BYTES (c.set_of.ensures i) (c.in_tokens-edges.ensures i)))
