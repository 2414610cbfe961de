-- Graphs whose tokens are those of their labels' keys.
use Rattle.std.proofs.Common.{◌≡◌, ℕ, zero, suc, ◌+◌, ◌-◌, List, [], ◌∷◌, ◌++◌, length, get_or, sym, subst, arith, inl, inr}
use Rattle.std.specs.Prelude.{slice_index_or}
use Rattle.std.proofs.Math.ListN.{get_or-append}
use Rattle.std.proofs.Math.Seq.{get_or-append_right}
use Rattle.std.proofs.lemmas.Bool.{cases_lt}
use Rattle.ov_tokens.specs.declared.label.Kind.{Kind}
use Rattle.ov_tokens.specs.declared.edge.Edge.{Edge}
use Rattle.ov_graph.specs.Contents.{Contents}
use Rattle.ov_chain.specs.Walk.{AreSealed, IsSealed}

no_edges : (kind : Kind) (master : List ℕ) (node : ℕ) → AreSealed kind master node []
no_edges kind master node edge (k, below, is) = absurd (omega arith)

-- a graph without edges
pub sealed_empty : (kind : Kind) (master : List ℕ) (graph : Contents) → graph.edges ≡ [] → IsSealed kind master graph
sealed_empty kind master graph e node =
    let P : List (List Edge) → Type 0 = λ rows. AreSealed kind master node (slice_index_or rows node []) in
    subst P (sym e) (no_edges kind master node)

-- of one row of edges, at its place and past it
one_row : (kind : Kind) (master : List ℕ) (count node place : ℕ) (edges : List Edge) → node ≡ count + place → AreSealed kind master count edges
    → AreSealed kind master node (get_or (edges ∷ []) place [])
one_row kind master count node zero edges e sealed =
    let same : count ≡ node = omega arith in
    subst (λ (n : ℕ). AreSealed kind master n edges) same sealed
one_row kind master count node (suc place) edges e sealed = no_edges kind master node

-- one more node
pub sealed_more : (kind : Kind) (master : List ℕ) (old new : Contents) (edges : List Edge) → IsSealed kind master old
    → new.edges ≡ old.edges ++ edges ∷ [] → AreSealed kind master (length old.edges) edges → IsSealed kind master new
sealed_more kind master old new edges sealed e more node =
    let P : List (List Edge) → Type 0 = λ rows. AreSealed kind master node (get_or rows node []) in
    let Q : List Edge → Type 0 = λ row. AreSealed kind master node row in
    let joined : P (old.edges ++ edges ∷ []) =
    elim (cases_lt node (length old.edges)) as (λ _. P (old.edges ++ edges ∷ [])) [
      | inl below ↦ subst Q (sym (get_or-append old.edges (edges ∷ []) [] node below)) (sealed node)
      | inr past ↦ subst Q (sym (get_or-append_right old.edges (edges ∷ []) node [] past)) (one_row kind master (length old.edges) node (node - length old.edges) edges (omega arith) more)
    ] in
    subst P (sym e) joined
