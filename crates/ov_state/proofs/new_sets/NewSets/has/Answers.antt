use Rattle.std.proofs.Common.{◌≡◌, ◌==◌, ◌∙◌, ap, refl, subst, Bool, Decides, List, ℕ, true, false}
use Rattle.std.specs.Prelude.{Contains, is_some}
use Rattle.std.specs.List.{IsAnyAnswer}
use Rattle.ov_graph.specs.Contents.{node_of}
use Rattle.ov_state.proofs.NewSets.{had-by, there-by}
use Rattle.ov_state.proofs.new_sets.NewSets.has.Goals as goal

pub returns-then-contains : goal.returns-then-contains
returns-then-contains g c =
    let sets = (g.S.Graph.contents c.args.graph.now).sets in
    let new = c.args.self.now.sets.items in
    let set = c.args.set.now in
    let decided = there-by new set c.contains.result
    (subst (λ (new : List ℕ). IsAnyAnswer (λ s b. (s == set) ≡ b) new c.contains.result) c.deref.ensures.value c.contains.ensures.cases) in
    c.if-contains.true ∙ had-by sets new set true (is_some (node_of sets set))
    (subst (λ (b : Bool). Decides b (Contains new set)) c.if-contains.true decided) refl

pub returns-else-contains : goal.returns-else-contains
returns-else-contains g c =
    let sets = (g.S.Graph.contents c.args.graph.now).sets in
    let new = c.args.self.now.sets.items in
    let set = c.args.set.now in
    let decided = there-by new set c.contains.result
    (subst (λ (new : List ℕ). IsAnyAnswer (λ s b. (s == set) ≡ b) new c.contains.result) c.deref.ensures.value c.contains.ensures.cases) in
    had-by sets new set false c.is_some.result
    (subst (λ (b : Bool). Decides b (Contains new set)) c.if-contains.false decided) (c.is_some.ensures ∙ ap is_some c.find.ensures)
