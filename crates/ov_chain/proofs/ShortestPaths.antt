-- What follows for a chosen chain, and that it is the only one.
use Rattle.std.proofs.Common.{ℕ, zero, suc, ◌≡◌, ◌∙◌, List, [], ◌∷◌, sym, arith, subst, inl, inr}
use Rattle.ov_tokens.specs.declared.label.Kind.{Kind}
use Rattle.ov_tokens.specs.declared.edge.Edge.{Edge}
use Rattle.ov_tokens.specs.declared.chain.Step.{Step}
use Rattle.ov_graph.specs.Contents.{Contents, edges_to}
use Rattle.ov_graph.specs.Chain.{IsChosen, IsDistance, IsFirst}
use Rattle.ov_chain.specs.Path.{IsShortestPath, OneChain}
use Rattle.ov_chain.proofs.PathLaws.{chosen_path, chosen_length}
use Rattle.ov_chain.proofs.WalkLaws.{walked-path}

pub shortest_path : (kind : Kind) (graph : Contents) (root node far : ℕ) (steps : List Step)
    → IsDistance graph.sets root node far → IsChosen kind graph root node far steps
    → IsShortestPath kind graph root node steps
shortest_path kind graph root node far steps distance chosen =
    let path = chosen_path kind graph root node far steps chosen in
    record {
      path = path;
      shortest = λ edges walk. omega (arith, chosen_length kind graph root node far steps chosen, distance.least edges walk);
      keys = λ master whole. walked-path kind master graph root node steps whole path;
    }

-- ---- the only one

first_same : (sets : List ℕ) (root distance : ℕ) (edges : List Edge) (one other : Edge)
    → IsFirst sets root distance edges one → IsFirst sets root distance edges other → one ≡ other
first_same sets root distance [] one other a b = absurd a
first_same sets root distance (edge ∷ edges) one other (inl a) (inl b) = a.1 ∙ sym b.1
first_same sets root distance (edge ∷ edges) one other (inl a) (inr b) = absurd (b.0 a.0)
first_same sets root distance (edge ∷ edges) one other (inr a) (inl b) = absurd (a.0 b.0)
first_same sets root distance (edge ∷ edges) one other (inr a) (inr b) =
    first_same sets root distance edges one other a.1 b.1

chosen_same : (kind : Kind) (g h : Contents) (root node distance : ℕ) (a b : List Step)
    → g.sets ≡ h.sets → g.edges ≡ h.edges
    → IsChosen kind g root node distance a → IsChosen kind h root node distance b → a ≡ b
chosen_same kind g h root node zero a b s t p q = p.1 ∙ sym q.1
chosen_same kind g h root node (suc distance) a b s t (e, before, first, chosen, is) (f, before', first', chosen', is') =
    let second : IsFirst g.sets root distance (edges_to g node) f = rw (s, t) first' in
    let same : e ≡ f = first_same g.sets root distance (edges_to g node) e f first second in
    let back : IsChosen kind h root e.from distance before' = rw same chosen' in
    let early : before ≡ before' = chosen_same kind g h root e.from distance before before' s t chosen back in
    is ∙ rw (early, same) (sym is')

pub one_chain : OneChain
one_chain kind g h root node a b s t p q =
    let there = q.distance in
    let far : IsDistance g.sets root node q.edges = rw s there in
    let same : p.edges ≡ q.edges = omega (arith, p.distance.least q.edges far.walk, far.least p.edges p.distance.walk) in
    chosen_same kind g h root node q.edges a b s t (subst (λ n. IsChosen kind g root node n a) same p.chosen) q.chosen
