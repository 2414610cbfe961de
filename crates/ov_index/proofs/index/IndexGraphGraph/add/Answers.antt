use Rattle.std.proofs.Common.{◌<◌, ◌+◌, ◌≡◌, ◌++◌, ◌∷◌, ◌∙◌, [], ℕ, List, length, length-append, arith, rules, ap, subst, sym}
use Rattle.ov_tokens.specs.declared.edge.Edge.{Edge}
use Rattle.ov_graph.specs.declared.rows.Span.{Span}
use Rattle.ov_base.specs.declared.limits.TheConstants.{MAX_LAYER_NODES}
use Rattle.ov_graph.specs.Reach.{IsRooted}
use Rattle.ov_graph.specs.Contents.{joined, plan_of}
use Rattle.ov_graph.specs.Rows.{rows, IsListGraph}
use Rattle.ov_graph.proofs.RowLaws.{added}
use Rattle.ov_graph.proofs.GraphLaws.{fresh_plan}
use Rattle.ov_index.specs.Orders.{IsBefore, IsLarger, IsOrder}
use Rattle.ov_index.proofs.AddLaws.{still_by_set, still_by_size, is_new, whole_by_set, whole_by_size}
use Rattle.ov_index.proofs.index.IndexGraphGraph.add.Given.{Over}
use Rattle.ov_index.proofs.index.IndexGraphGraph.add.Goals as goal

-- what the three lists are at the return
all_added : (g : Over) (c : goal.After-drop-cover g)
    → IsListGraph c.push_within-2.new.items.items c.append.new.edges.items c.push_within.new.items.items
    × (rows c.append.new.edges.items c.push_within.new.items.items ≡ rows c.self.inside.edges.items c.self.inside.spans.items ++ joined c.args.cover.from c.args.tokens ∷ [])
all_added g c =
    let sets : List ℕ = c.self.inside.sets.items in
    let edges : List Edge = c.self.inside.edges.items in
    let spans : List Span = c.self.inside.spans.items in
    let span : Span = record { first = c.len-first.result; many = length c.as_slice-many.result.now } in
    let same = sym (ap (λ k. k.sets) c.self.view_is) in
    added sets edges spans c.args.set.now c.args.cover c.args.tokens span _ _ _
    (c.push_within-2.ensures.items ∙ ap (λ s. sets ++ s ∷ []) c.copy.ensures)
    (c.append.ensures.items ∙ ap (λ f. edges ++ joined f c.as_slice-2.result.now) c.as_slice.ensures ∙ ap (λ t. edges ++ joined c.args.cover.from t) c.as_slice-2.ensures)
    c.push_within.ensures.items
    record {
      graph = c.self.invariant.list;
      first = omega arith;
      many = ap length c.as_slice-many.ensures;
      plan = subst (λ s. c.args.cover ≡ plan_of s c.args.set.now) same c.requires.cover;
      fresh = c.requires.fresh;
      roots = subst (λ s. IsRooted s c.args.set.now) same c.requires.roots;
      tokened = c.requires.tokens;
      few = subst (λ (s : List ℕ). length s < MAX_LAYER_NODES) same c.requires.nodes;
    }

pub insert-requires : goal.insert-requires
insert-requires g c =
    let sets : List ℕ = c.self.inside.sets.items in
    let is : c.deref.result.now ≡ sets ++ c.args.set.now ∷ [] = c.deref.ensures.value ∙ c.push_within-2.ensures.items ∙ ap (λ s. sets ++ s ∷ []) c.copy.ensures in
    let same = sym (ap (λ k. k.sets) c.self.view_is) in
    let plan : c.args.cover ≡ plan_of sets c.args.set.now = subst (λ s. c.args.cover ≡ plan_of s c.args.set.now) same c.requires.cover in
    let next : c.len-node.result ≡ length sets = omega arith in (
      search rules,
      (
        omega (arith, ap length is, length-append sets (c.args.set.now ∷ [])),
        (
          still_by_set sets c.deref.result.now c.args.set.now c.len-node.result is next c.self.inside.by_set.items c.self.invariant.order_by_set,
          (
            is_new sets c.deref.result.now c.args.set.now c.len-node.result is next (fresh_plan sets c.args.set.now c.args.cover plan c.requires.fresh).0,
            omega (arith, c.requires.room.0, ap (λ k. k.spare_sets) c.self.view_is),
          ),
        ),
      ),
    )

pub insert-requires-2 : goal.insert-requires-2
insert-requires-2 g c =
    let sets : List ℕ = c.self.inside.sets.items in
    let is : c.deref-2.result.now ≡ sets ++ c.args.set.now ∷ [] = c.deref-2.ensures.value ∙ c.push_within-2.ensures.items ∙ ap (λ s. sets ++ s ∷ []) c.copy.ensures in
    let next : c.len-node.result ≡ length sets = omega arith in (
      search rules,
      (
        omega (arith, ap length is, length-append sets (c.args.set.now ∷ [])),
        (
          still_by_size sets c.deref-2.result.now c.args.set.now c.len-node.result is next c.self.inside.by_size.items c.self.invariant.order_by_size,
          omega (arith, c.requires.room.0, ap (λ k. k.spare_sets) c.self.view_is),
        ),
      ),
    )

pub invariant_of-self : goal.invariant_of-self
invariant_of-self g c =
    let sets : List ℕ = c.self.inside.sets.items in
    let sets2 : List ℕ = c.push_within-2.new.items.items in
    let is : sets2 ≡ sets ++ c.args.set.now ∷ [] = c.push_within-2.ensures.items ∙ ap (λ s. sets ++ s ∷ []) c.copy.ensures in
    record {
      list = (all_added g c).0;
      order_by_set = whole_by_set sets sets2 c.args.set.now c.len-node.result is (omega arith) c.insert.new.order.items
          (subst (λ s. IsOrder (IsBefore s) (c.len-node.result + 1) c.insert.new.order.items) c.deref.ensures.value c.insert.ensures.order);
      order_by_size = whole_by_size sets sets2 c.args.set.now c.len-node.result is (omega arith) c.insert-2.new.order.items
          (subst (λ s. IsOrder (IsLarger (s ++ [])) (c.len-node.result + 1) c.insert-2.new.order.items) c.deref-2.ensures.value c.insert-2.ensures.order);
    }

pub returns-clause-edges : goal.returns-clause-edges
returns-clause-edges g c = (all_added g c).1 ∙ ap (λ k. k.edges ++ joined c.args.cover.from c.args.tokens ∷ []) c.self.view_is
