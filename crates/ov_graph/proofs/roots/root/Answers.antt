use Rattle.std.proofs.Common.{◌∙◌, ap, sym}
use Rattle.ov_base.specs.Sets.{single}
use Rattle.ov_graph.specs.Contents.{node_of}
use Rattle.ov_graph.proofs.ListLaws.{node_some}
use Rattle.ov_graph.proofs.RootLaws.{none_has, root_is}
use Rattle.ov_graph.proofs.roots.root.Goals as goal

pub unreachable-requires : goal.unreachable-requires
unreachable-requires g c =
    let sets = (g.G.Graph.contents c.args.graph.now).sets in
    none_has sets (single c.args.user) (ap (node_of sets) (sym c.alone.ensures) ∙ sym c.find.ensures ∙ c.in-None.is) c.requires.there

pub returns-clause-root : goal.returns-clause-root
returns-clause-root g c =
    let sets = (g.G.Graph.contents c.args.graph.now).sets in
    sym (root_is sets c.args.user c.in-Some.node (ap (node_of sets) (sym c.alone.ensures) ∙ sym c.find.ensures ∙ c.in-Some.is))

pub returns-clause-there : goal.returns-clause-there
returns-clause-there g c =
    let sets = (g.G.Graph.contents c.args.graph.now).sets in
    (node_some sets (single c.args.user) c.in-Some.node (ap (node_of sets) (sym c.alone.ensures) ∙ sym c.find.ensures ∙ c.in-Some.is)).0

pub returns-clause-alone : goal.returns-clause-alone
returns-clause-alone g c =
    let sets = (g.G.Graph.contents c.args.graph.now).sets in
    (node_some sets (single c.args.user) c.in-Some.node (ap (node_of sets) (sym c.alone.ensures) ∙ sym c.find.ensures ∙ c.in-Some.is)).1
