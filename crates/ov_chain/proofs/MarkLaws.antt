-- Laws of marks.
use Rattle.std.proofs.Common.{ℕ, zero, suc, ◌+◌, ◌≡◌, ◌≢◌, ◌<◌, ◌≤◌, Bool, true, false, List, [], ◌∷◌, length, get_or, refl, sym, ◌∙◌, ap, arith, subst, inl, inr, true≢false}
use Rattle.std.specs.Prelude.{slice_set, Contains}
use Rattle.std.proofs.lemmas.Bool.{cases_eq}
use Rattle.std.proofs.lemmas.List.{length-set, get_or-set_same, get_or-set_other, get_or_past}
use Rattle.ov_tokens.specs.declared.edge.Edge.{Edge}
use Rattle.ov_graph.specs.Contents.{starts_of}
use Rattle.ov_graph.specs.Reach.{starts, Walk}
use Rattle.ov_graph.proofs.ListLaws.{Contains-first, Contains-later, Contains-cases, Contains-none}
use Rattle.ov_graph.proofs.ReachLaws.{starts-Contains}
use Rattle.ov_chain.specs.Marks.{IsMarked, starts_marked, IsClosed}

-- a mark stays
pub set-keeps : (marks : List Bool) (m n : ℕ) → IsMarked marks n → IsMarked (slice_set marks m true) n
set-keeps [] m n h = h
set-keeps (x ∷ marks) zero zero h = refl
set-keeps (x ∷ marks) zero (suc n) h = h
set-keeps (x ∷ marks) (suc m) zero h = h
set-keeps (x ∷ marks) (suc m) (suc n) h = set-keeps marks m n h

pub marked-keeps : (edges : List Edge) (marks : List Bool) (n : ℕ) → IsMarked marks n
    → IsMarked (starts_marked edges marks) n
marked-keeps [] marks n h = h
marked-keeps (e ∷ edges) marks n h = marked-keeps edges (slice_set marks e.from true) n (set-keeps marks e.from n h)

-- each start is marked
pub marked-marks : (edges : List Edge) (marks : List Bool) (from : ℕ) → Contains (starts_of edges) from
    → from < length marks → IsMarked (starts_marked edges marks) from
marked-marks [] marks from h inside = absurd (Contains-none from h)
marked-marks (e ∷ edges) marks from h inside = elim (Contains-cases e.from (starts_of edges) from h) [
  | inl same ↦
      let here : e.from < length marks = omega arith in
      marked-keeps edges (slice_set marks e.from true) from (subst (λ k. IsMarked (slice_set marks e.from true) k) same (get_or-set_same marks e.from true false here))
  | inr later ↦ marked-marks edges (slice_set marks e.from true) from later (omega (arith, length-set marks e.from true))
]

-- a node above the starts is marked only if it was before
pub marked-others : (edges : List Edge) (marks : List Bool) (bound n : ℕ)
    → ((from : ℕ) → Contains (starts_of edges) from → from < bound) → bound ≤ n
    → IsMarked (starts_marked edges marks) n → IsMarked marks n
marked-others [] marks bound n low up h = h
marked-others (e ∷ edges) marks bound n low up h =
    let below : e.from < bound = low e.from (Contains-first e.from (starts_of edges)) in
    let other : n ≢ e.from = λ same. omega arith in
    sym (get_or-set_other marks e.from n true false other)
    ∙ marked-others edges (slice_set marks e.from true) bound n (λ f c. low f (Contains-later e.from (starts_of edges) f c)) up h

-- from a number on, with a node the start of each edge into it is marked
abbrev pub IsClosedFrom : List ℕ → ℕ → List Bool → Type 0
IsClosedFrom sets first marks = (node from : ℕ) → first ≤ node → IsMarked marks node → Contains (starts sets node) from → IsMarked marks from

pub closed_more : (sets : List ℕ) (n : ℕ) (edges : List Edge) (marks : List Bool)
    → starts_of edges ≡ starts sets n → n < length marks → IsClosedFrom sets (n + 1) marks
    → IsClosedFrom sets n (starts_marked edges marks)
closed_more sets n edges marks covers inside closed node from up h c = elim (cases_eq node n) [
  | inl same ↦
      let there : Contains (starts sets n) from = subst (λ k. Contains (starts sets k) from) same c in
      let below : from < n = (starts-Contains sets n from there).0 in
      marked-marks edges marks from (subst (λ (xs : List ℕ). Contains xs from) (sym covers) there) (omega arith)
  | inr other ↦
      let before : IsMarked marks node = marked-others edges marks n node (λ f i. (starts-Contains sets n f (subst (λ (xs : List ℕ). Contains xs f) covers i)).0) up h in
      marked-keeps edges marks from (closed node from (omega arith) before c)
]

-- whatever leads to a marked node is marked
pub Walk-marked : (sets : List ℕ) (marks : List Bool) (from to edges : ℕ) → IsClosed sets marks
    → IsMarked marks to → Walk sets from to edges → IsMarked marks from
Walk-marked sets marks from to zero closed h w = subst (IsMarked marks) (sym w) h
Walk-marked sets marks from to (suc edges) closed h w = Walk-marked sets marks from w.0 edges closed (closed to w.0 h w.2.1) w.1
