use Rattle.std.proofs.Common.{◌≡◌, ◌∙◌, ℕ, None, Some, ap, sym}
use Rattle.ov_base.specs.Sets.{empty, single, with}
use Rattle.ov_base.proofs.SetLaws.{union-empty, union_comm}
use Rattle.ov_graph.specs.Contents.{node_of}
use Rattle.ov_graph.proofs.ListLaws.{Contains-place, node_none, node_some}
use Rattle.ov_state.proofs.chains.root.Goals as goal

-- the set that is looked for is that of the user alone
alone : (none set user : ℕ) → none ≡ empty → set ≡ with none user → set ≡ single user
alone none set user nobody same =
    same ∙ ap (λ s. with s user) nobody ∙ union_comm empty (single user) ∙ union-empty (single user)

pub unreachable-requires : goal.unreachable-requires
unreachable-requires g c =
    let user = c.args.user in
    let sets = (g.G.Graph.contents c.args.graph.now).sets in
    let none : node_of sets (single user) ≡ None =
    ap (node_of sets) (sym (alone c.empty.result c.with.result user c.empty.ensures c.with.ensures)) ∙ sym c.find.ensures ∙ c.in-None.is in
    let (n, below, same) = Contains-place sets (single user) c.requires.there in
    node_none sets (single user) none n below same

pub returns-clause-alone : goal.returns-clause-alone
returns-clause-alone g c =
    let user = c.args.user in
    let sets = (g.G.Graph.contents c.args.graph.now).sets in
    let some : node_of sets (single user) ≡ Some c.in-Some.node =
    ap (node_of sets) (sym (alone c.empty.result c.with.result user c.empty.ensures c.with.ensures)) ∙ sym c.find.ensures ∙ c.in-Some.is in
    (node_some sets (single user) c.in-Some.node some).1
