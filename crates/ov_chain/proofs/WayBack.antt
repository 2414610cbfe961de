-- The way back from the end of a chain to its root.
use Rattle.std.proofs.Common.{ℕ, zero, suc, ◌≡◌, ◌<◌, ◌≤◌, List, [], ◌∷◌, ◌++◌, length, reverse, Some, None, Bool, get_or, refl, sym, ◌∙◌, ap, arith, subst, append_assoc}
use Rattle.std.proofs.lemmas.List.{append-nil, reverse-append, get_or_read}
use Rattle.std.specs.Prelude.{Option, Contains}
use Rattle.ov_tokens.specs.declared.label.Kind.{Kind}
use Rattle.ov_tokens.specs.declared.edge.Edge.{Edge}
use Rattle.ov_tokens.specs.declared.chain.Step.{Step}
use Rattle.ov_tokens.specs.Labels.{label_of}
use Rattle.ov_graph.specs.Contents.{Contents, edges_to, starts_of}
use Rattle.ov_graph.specs.Reach.{starts, IsEdge, Walk, Leads}
use Rattle.ov_graph.specs.Chain.{IsDistance, IsFirst, IsChosen}
use Rattle.ov_graph.proofs.ReachLaws.{IsEdge-upward}
use Rattle.ov_chain.specs.Distances.{IsFound, AreFound, MarkedAreFound, first_near}
use Rattle.ov_chain.specs.Marks.{IsMarked, IsClosed}
use Rattle.ov_chain.proofs.MarkLaws.{Walk-marked}
use Rattle.ov_chain.proofs.DistanceLaws.{StartsAreFound, first_is}

-- a walk with an edge before it
pub Walk-before : (sets : List ℕ) (from near to edges : ℕ) → IsEdge sets from near → Walk sets near to edges
    → Walk sets from to (suc edges)
Walk-before sets from near to zero edge w = (from, refl, subst (λ n. IsEdge sets from n) w edge)
Walk-before sets from near to (suc edges) edge w = (w.0, Walk-before sets from near w.0 edges edge w.1, w.2)

-- the starts of the edges into a node that leads to the last
pub starts_found : (sets : List ℕ) (root last here : ℕ) (ds : List (Option ℕ)) (es : List Edge)
    → AreFound sets root last ds → here < length sets → starts_of es ≡ starts sets here → Leads sets here last
    → StartsAreFound sets root ds es
starts_found sets root last here ds es found inside edges (m, w) from c =
    let edge : IsEdge sets from here = (inside, subst (λ (cs : List ℕ). Contains cs from) edges c) in
    found from (suc m, Walk-before sets from here last m edge w)

-- what holds at a node on the way back, so far from the root, with these steps behind it
pub record IsBack (kind : Kind) (graph : Contents) (root node far here left : ℕ) (behind : List Step) : Type 0 where
  pub near : IsDistance graph.sets root here left
  pub leads : Leads graph.sets here node
  pub low : here ≤ node
  pub rest : (steps : List Step) → IsChosen kind graph root here left steps
      → IsChosen kind graph root node far (steps ++ reverse behind)

pub back_more : (kind : Kind) (graph : Contents) (root node far here left : ℕ) (behind : List Step) (ds : List (Option ℕ)) (es : List Edge) (edge : Edge)
    → here < length graph.sets → es ≡ edges_to graph here → starts_of es ≡ starts graph.sets here
    → StartsAreFound graph.sets root ds es → first_near ds left es ≡ Some edge
    → IsBack kind graph root node far here (suc left) behind
    → IsBack kind graph root node far edge.from left (behind ++ record { to = label_of kind here; token = edge.token } ∷ [])
back_more kind graph root node far here left behind ds es edge inside same edges right found b =
    let step : Step = record { to = label_of kind here; token = edge.token } in
    let f = first_is graph.sets root left ds es edge right found in
    let over : IsEdge graph.sets edge.from here = (inside, subst (λ (cs : List ℕ). Contains cs edge.from) edges f.there) in
    let below : edge.from < here = IsEdge-upward graph.sets edge.from here over in
    let low : here ≤ node = b.low in
    record {
      near = f.near;
      leads = (suc b.leads.0, Walk-before graph.sets edge.from here node b.leads.0 over b.leads.1);
      low = omega arith;
      rest = λ steps chosen.
          let longer : IsChosen kind graph root here (suc left) (steps ++ step ∷ []) = (edge, steps, subst (λ (l : List Edge). IsFirst graph.sets root left l edge) same f.first, chosen, refl) in
          subst (λ (s : List Step). IsChosen kind graph root node far s)
          (append_assoc steps (step ∷ []) (reverse behind) ∙ ap (λ (r : List Step). steps ++ r) (sym (reverse-append behind (step ∷ []))))
          (b.rest (steps ++ step ∷ []) longer);
    }

pub back_end : (kind : Kind) (graph : Contents) (root node far here : ℕ) (behind : List Step)
    → IsBack kind graph root node far here 0 behind → IsChosen kind graph root node far (reverse behind)
back_end kind graph root node far here behind b = b.rest [] (b.near.walk, refl)

-- what was found of each marked node is what was found of each node that leads to a marked one
pub are_found : (sets : List ℕ) (root node : ℕ) (marks : List Bool) (ds : List (Option ℕ)) → IsClosed sets marks
    → IsMarked marks node → MarkedAreFound sets root marks ds → AreFound sets root node ds
are_found sets root node marks ds closed marked found n (m, w) = found n (Walk-marked sets marks n node m closed marked w)

-- a distance that was read
pub read_is : (sets : List ℕ) (root node : ℕ) (ds : List (Option ℕ)) (o p : Option ℕ)
    → AreFound sets root node ds → node < length ds → o ≡ get_or ds node o → o ≡ p → IsFound sets root node p
read_is sets root node ds o p found inside e is = subst (λ (q : Option ℕ). IsFound sets root node q) (sym (get_or_read ds node o inside e None) ∙ is) (found node (0, refl))
