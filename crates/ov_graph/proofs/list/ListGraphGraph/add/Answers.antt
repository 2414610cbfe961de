use Rattle.std.proofs.Common.{◌<◌, ◌≡◌, ◌++◌, ◌∷◌, ◌∙◌, [], ℕ, List, length, arith, ap, subst, sym}
use Rattle.ov_tokens.specs.declared.edge.Edge.{Edge}
use Rattle.ov_graph.specs.declared.rows.Span.{Span}
use Rattle.ov_base.specs.declared.limits.TheConstants.{MAX_LAYER_NODES}
use Rattle.ov_graph.specs.Reach.{IsRooted}
use Rattle.ov_graph.specs.Contents.{joined, plan_of}
use Rattle.ov_graph.specs.Rows.{rows, IsListGraph}
use Rattle.ov_graph.proofs.RowLaws.{added}
use Rattle.ov_graph.proofs.list.ListGraphGraph.add.Given.{Over}
use Rattle.ov_graph.proofs.list.ListGraphGraph.add.Goals as goal

-- what the three lists are at the return
all_added : (g : Over) (c : goal.After-drop-cover g)
    → IsListGraph c.push_within-2.new.items.items c.append.new.edges.items c.push_within.new.items.items
    × (rows c.append.new.edges.items c.push_within.new.items.items ≡ rows c.self.inside.edges.items c.self.inside.spans.items ++ joined c.args.cover.from c.args.tokens ∷ [])
all_added g c =
    let sets : List ℕ = c.self.inside.sets.items in
    let edges : List Edge = c.self.inside.edges.items in
    let spans : List Span = c.self.inside.spans.items in
    let span : Span = record { first = c.len-first.result; many = length c.as_slice-many.result.now } in
    let same = sym (ap (λ k. k.sets) c.self.view_is) in
    added sets edges spans c.args.set.now c.args.cover c.args.tokens span _ _ _
    (c.push_within-2.ensures.items ∙ ap (λ s. sets ++ s ∷ []) c.copy.ensures)
    (c.append.ensures.items ∙ ap (λ f. edges ++ joined f c.as_slice-2.result.now) c.as_slice.ensures ∙ ap (λ t. edges ++ joined c.args.cover.from t) c.as_slice-2.ensures)
    c.push_within.ensures.items
    record {
      graph = c.self.invariant;
      first = omega arith;
      many = ap length c.as_slice-many.ensures;
      plan = subst (λ s. c.args.cover ≡ plan_of s c.args.set.now) same c.requires.cover;
      fresh = c.requires.fresh;
      roots = subst (λ s. IsRooted s c.args.set.now) same c.requires.roots;
      tokened = c.requires.tokens;
      few = subst (λ (s : List ℕ). length s < MAX_LAYER_NODES) same c.requires.nodes;
    }

pub invariant_of-self : goal.invariant_of-self
invariant_of-self g c = (all_added g c).0

pub returns-clause-edges : goal.returns-clause-edges
returns-clause-edges g c = (all_added g c).1 ∙ ap (λ k. k.edges ++ joined c.args.cover.from c.args.tokens ∷ []) c.self.view_is
