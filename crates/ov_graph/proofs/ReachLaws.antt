-- Where the edges lead.
use Rattle.std.proofs.Common.{ℕ, suc, zero, ◌≡◌, ◌≢◌, ◌<◌, ◌≤◌, List, length, take, sym, ◌∙◌, arith, subst, inl, inr}
use Rattle.std.specs.Prelude.{slice_index, Contains}
use Rattle.std.proofs.lemmas.Bool.{cases_eq, cases_lt}
use Rattle.std.proofs.lemmas.List.{length-take, get_or-take}
use Rattle.ov_base.specs.Sets.{Has, single, size}
use Rattle.ov_base.proofs.SetLaws.{single-Has, empty-Has, single_within}
use Rattle.ov_base.proofs.SetSizes.{size_one, size_some}
use Rattle.ov_graph.specs.Reach.{starts, IsEdge, Walk, Leads, IsGrown, LeadsByMembership}
use Rattle.ov_graph.proofs.ListLaws.{Contains-place}
use Rattle.ov_graph.proofs.CandidateLaws.{IsCandidate}
use Rattle.ov_graph.proofs.CoverLaws.{cover-Contains, cover-has}

set_before : (sets : List ℕ) (n c : ℕ) → c < n → slice_index (take n sets) c ≡ slice_index sets c
set_before sets n c h = get_or-take n sets c 0 h

-- an edge comes from an earlier node, whose set is a nonempty strict subset
pub starts-Contains : (sets : List ℕ) (n c : ℕ) → Contains (starts sets n) c
    → (c < n) × IsCandidate (slice_index sets n) (slice_index sets c)
starts-Contains sets n c h =
    let r = cover-Contains (take n sets) (slice_index sets n) c h in
    let earlier : c < n = omega (arith, r.0, length-take n sets) in
    (earlier, subst (λ s. IsCandidate (slice_index sets n) s) (set_before sets n c earlier) r.1)

pub IsEdge-upward : (sets : List ℕ) (from to : ℕ) → IsEdge sets from to → from < to
IsEdge-upward sets from to edge = (starts-Contains sets to from edge.1).0

-- where a set has two users or more, each comes over an edge
pub starts-has : (sets : List ℕ) (n u : ℕ) → IsGrown sets → n < length sets → Has (slice_index sets n) u
    → slice_index sets n ≢ single u → (c : ℕ) × IsEdge sets c n × Has (slice_index sets c) u
starts-has sets n u grown inside one several =
    let set : ℕ = slice_index sets n in
    let two : 2 ≤ size set = elim (cases_lt (size set) 2) [
      | inl less ↦ absurd (several (size_one set u one (omega (arith, size_some set u one))))
      | inr many ↦ many
    ] in
    let root = Contains-place (take n sets) (single u) (grown.rooted n inside two u one) in
    let is : IsCandidate set (slice_index (take n sets) root.0) = record {
      some = λ none. empty-Has u (subst (λ s. Has s u) (sym root.2 ∙ none) (single-Has u));
      inside = λ v h. single_within u set one v (subst (λ s. Has s v) root.2 h);
      strict = λ same. several (sym same ∙ root.2);
    } in
    let mine : Has (slice_index (take n sets) root.0) u = subst (λ s. Has s u) (sym root.2) (single-Has u) in
    let found = cover-has (take n sets) set root.0 u root.1 is mine in
    let earlier = (starts-Contains sets n found.0 found.1).0 in
    (found.0, (inside, found.1), subst (λ s. Has s u) (set_before sets n found.0 earlier) found.2)

-- a user who is in the set of the start of a walk is in the set of its end
pub Walk-Has : (sets : List ℕ) (from to edges u : ℕ) → Walk sets from to edges
    → Has (slice_index sets from) u → Has (slice_index sets to) u
Walk-Has sets from to zero u w one = subst (λ n. Has (slice_index sets n) u) w one
Walk-Has sets from to (suc edges) u w one =
    (starts-Contains sets to w.0 w.2.1).1.inside u (Walk-Has sets from w.0 edges u w.1 one)

-- from the node of a user alone edges lead to each set that has the user
Has-Leads : (bound : ℕ) (sets : List ℕ) (root n u : ℕ) → n < bound → IsGrown sets → root < length sets
    → slice_index sets root ≡ single u → n < length sets → Has (slice_index sets n) u
    → Leads sets root n
Has-Leads zero sets root n u less grown there alone inside one = absurd (omega arith)
Has-Leads (suc bound) sets root n u less grown there alone inside one = elim (cases_eq root n) [
  | inl same ↦ (0, same)
  | inr other ↦
      let near = starts-has sets n u grown inside one (λ e. other (grown.distinct root n there inside (alone ∙ sym e))) in
      let earlier : near.0 < n = IsEdge-upward sets near.0 n near.1 in
      let w = Has-Leads bound sets root near.0 u (omega arith) grown there alone (omega arith) near.2 in
      (suc w.0, (near.0, w.1, near.1))
]

-- the theorem of the graph
pub leads_by_membership : (sets : List ℕ) → IsGrown sets → LeadsByMembership sets
leads_by_membership sets grown root n u there inside alone = (
  λ w. Walk-Has sets root n w.0 u w.1 (subst (λ s. Has s u) (sym alone) (single-Has u)),
  λ one. Has-Leads (suc n) sets root n u (omega arith) grown there alone inside one,
)
