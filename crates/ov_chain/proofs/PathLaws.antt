-- The chosen chain is a path, and as long as its end is far.
use Rattle.std.proofs.Common.{ℕ, zero, suc, ◌+◌, ◌≡◌, List, [], ◌∷◌, ◌++◌, length, refl, sym, ◌∙◌, ap, arith, subst, inl, inr, length-append}
use Rattle.std.specs.Prelude.{Contains}
use Rattle.ov_tokens.specs.declared.label.Kind.{Kind}
use Rattle.ov_tokens.specs.declared.edge.Edge.{Edge}
use Rattle.ov_tokens.specs.declared.chain.Step.{Step}
use Rattle.ov_tokens.specs.Labels.{label_of}
use Rattle.ov_graph.specs.Contents.{Contents, edges_to}
use Rattle.ov_graph.specs.Chain.{IsFirst, IsChosen}
use Rattle.ov_graph.proofs.ListLaws.{Contains-first, Contains-later}
use Rattle.ov_chain.specs.Path.{IsStep, IsPath}

IsFirst-Contains : (sets : List ℕ) (root distance : ℕ) (edges : List Edge) (edge : Edge)
    → IsFirst sets root distance edges edge → Contains edges edge
IsFirst-Contains sets root distance [] edge h = absurd h
IsFirst-Contains sets root distance (first ∷ others) edge (inl here) = subst (λ (x : Edge). Contains (first ∷ others) x) (sym here.1) (Contains-first first others)
IsFirst-Contains sets root distance (first ∷ others) edge (inr later) = Contains-later first others edge (IsFirst-Contains sets root distance others edge later.1)

path-more : (kind : Kind) (graph : Contents) (from near to : ℕ) (steps : List Step) (step : Step)
    → IsPath kind graph from near steps → IsStep kind graph near to step
    → IsPath kind graph from to (steps ++ step ∷ [])
path-more kind graph from near to [] step path last = (to, subst (λ n. IsStep kind graph n to step) (sym path) last, refl)
path-more kind graph from near to (first ∷ steps) step path last = (path.0, path.1, path-more kind graph path.0 near to steps step path.2 last)

pub chosen_path : (kind : Kind) (graph : Contents) (root node far : ℕ) (steps : List Step)
    → IsChosen kind graph root node far steps → IsPath kind graph root node steps
chosen_path kind graph root node zero steps chosen = subst (λ (s : List Step). IsPath kind graph root node s) (sym chosen.1) chosen.0
chosen_path kind graph root node (suc far) steps (edge, before, first, chosen, same) =
    let step : Step = record { to = label_of kind node; token = edge.token } in
    let last : IsStep kind graph edge.from node step = record { edge = edge; there = IsFirst-Contains graph.sets root far (edges_to graph node) edge first; starts = refl; leads = refl } in
    subst (λ (s : List Step). IsPath kind graph root node s) (sym same)
    (path-more kind graph root edge.from node before step (chosen_path kind graph root edge.from far before chosen) last)

pub chosen_length : (kind : Kind) (graph : Contents) (root node far : ℕ) (steps : List Step)
    → IsChosen kind graph root node far steps → length steps ≡ far
chosen_length kind graph root node zero steps chosen = ap length chosen.1
chosen_length kind graph root node (suc far) steps (edge, before, first, chosen, same) =
    let step : Step = record { to = label_of kind node; token = edge.token } in
    let all : length steps ≡ length before + 1 = ap length same ∙ length-append before (step ∷ []) in
    let rest : length before ≡ far = chosen_length kind graph root edge.from far before chosen in
    omega arith
