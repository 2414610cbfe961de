-- Edges in spans of one list.
use Rattle.std.proofs.Common.{ℕ, suc, zero, ◌+◌, ◌≤◌, ◌<◌, ◌≡◌, List, [], ◌∷◌, ◌++◌, length, drop, get_or, refl, ◌∙◌, ap, arith, length-append, length-drop}
use Rattle.std.specs.Prelude.{IsTrue}
use Rattle.std.proofs.lemmas.List.{take-append-le, take_all, drop-append-le}
use Rattle.std.proofs.Math.Seq.{drop-append_seam}
use Rattle.ov_tokens.specs.declared.token.Token.{Token}
use Rattle.ov_tokens.specs.declared.edge.Edge.{Edge}
use Rattle.ov_graph.specs.declared.rows.Span.{Span}
use Rattle.ov_graph.specs.declared.cover.Cover.{Cover}
use Rattle.ov_base.specs.declared.limits.TheConstants.{MAX_LAYER_NODES}
use Rattle.ov_graph.specs.Reach.{IsRooted}
use Rattle.ov_graph.specs.Contents.{joined, plan_of}
use Rattle.ov_graph.specs.Rows.{row, rows, AreInside, IsListGraph}
use Rattle.ov_graph.proofs.ListLaws.{node_none}
use Rattle.ov_graph.proofs.GraphLaws.{joined-length, graph_more, fresh_plan}

pub rows-length : (edges : List Edge) (spans : List Span) → length (rows edges spans) ≡ length spans
rows-length edges [] = refl
rows-length edges (s ∷ spans) = ap suc (rows-length edges spans)

pub rows-at : (edges : List Edge) (spans : List Span) (n : ℕ) (d : Span) → n < length spans
    → get_or (rows edges spans) n [] ≡ row edges (get_or spans n d)
rows-at edges [] n d h = absurd (omega arith)
rows-at edges (s ∷ spans) zero d h = refl
rows-at edges (s ∷ spans) (suc n) d h = rows-at edges spans n d (omega arith)

pub inside-at : (long : ℕ) (spans : List Span) (n : ℕ) (d : Span) → AreInside long spans
    → n < length spans → (get_or spans n d).first + (get_or spans n d).many ≤ long
inside-at long [] n d all h = absurd (omega arith)
inside-at long (s ∷ spans) zero d all h = all.0
inside-at long (s ∷ spans) (suc n) d all h = inside-at long spans n d all.1 (omega arith)

-- ---- more edges at the end

row-grow : (edges more : List Edge) (s : Span) → s.first + s.many ≤ length edges
    → row (edges ++ more) s ≡ row edges s
row-grow edges more s h =
    let inside : s.first ≤ length edges = omega arith in
    let enough : s.many ≤ length (drop s.first edges) = omega (arith, length-drop s.first edges) in
    rw (drop-append-le s.first edges more inside, take-append-le s.many (drop s.first edges) more enough) refl

rows-grow : (edges more : List Edge) (spans : List Span) → AreInside (length edges) spans
    → rows (edges ++ more) spans ≡ rows edges spans
rows-grow edges more [] all = refl
rows-grow edges more (s ∷ spans) all = rw (row-grow edges more s all.0, rows-grow edges more spans all.1) refl

rows-push : (edges : List Edge) (spans : List Span) (s : Span)
    → rows edges (spans ++ s ∷ []) ≡ rows edges spans ++ row edges s ∷ []
rows-push edges [] s = refl
rows-push edges (t ∷ spans) s = ap (λ r. row edges t ∷ r) (rows-push edges spans s)

inside-grow : (m n : ℕ) (spans : List Span) → m ≤ n → AreInside m spans → AreInside n spans
inside-grow m n [] h all = all
inside-grow m n (s ∷ spans) h all = (omega (arith, all.0), inside-grow m n spans h all.1)

inside-push : (long : ℕ) (spans : List Span) (s : Span) → AreInside long spans → s.first + s.many ≤ long
    → AreInside long (spans ++ s ∷ [])
inside-push long [] s all h = (h, tt)
inside-push long (t ∷ spans) s all h = (all.0, inside-push long spans s all.1 h)

row-new : (edges more : List Edge) (s : Span) → s.first ≡ length edges → s.many ≡ length more
    → row (edges ++ more) s ≡ more
row-new edges more s f m = rw (f, m, drop-append_seam edges more, take_all (length more) more (omega arith)) refl

-- ---- what `add` leaves

-- a set that is added, with what its caller knows of it
pub record IsAdded (sets : List ℕ) (edges : List Edge) (spans : List Span) (set : ℕ) (cover : Cover) (tokens : List Token) (span : Span) : Type 0 where
  pub graph : IsListGraph sets edges spans
  pub first : span.first ≡ length edges
  pub many : span.many ≡ length tokens
  pub plan : cover ≡ plan_of sets set
  pub fresh : IsTrue cover.fresh
  pub roots : IsRooted sets set
  pub tokened : length tokens ≡ length cover.from
  pub few : length sets < MAX_LAYER_NODES

module _ (sets : List ℕ) (edges : List Edge) (spans : List Span) (set : ℕ) (cover : Cover) (tokens : List Token) (span : Span) where
  rows_added : IsAdded sets edges spans set cover tokens span
      → rows (edges ++ joined cover.from tokens) (spans ++ span ∷ []) ≡ rows edges spans ++ joined cover.from tokens ∷ []
  rows_added h =
      let long : length (joined cover.from tokens) ≡ length cover.from = joined-length cover.from tokens h.tokened in
      rows-push (edges ++ joined cover.from tokens) spans span
      ∙ rw (rows-grow edges (joined cover.from tokens) spans h.graph.inside, row-new edges (joined cover.from tokens) span h.first (omega (arith, h.many, h.tokened))) refl

  graph_added : IsAdded sets edges spans set cover tokens span
      → IsListGraph (sets ++ set ∷ []) (edges ++ joined cover.from tokens) (spans ++ span ∷ [])
  graph_added h =
      let long : length (joined cover.from tokens) ≡ length cover.from = joined-length cover.from tokens h.tokened in
      let all = length-append edges (joined cover.from tokens) in
      let plan = fresh_plan sets set cover h.plan h.fresh in
      record {
        graph = rw (rows_added h) (graph_more sets set (node_none sets set plan.0) (rows edges spans) cover.from tokens h.graph.graph h.roots plan.1 h.tokened);
        inside = inside-push _ spans span (inside-grow _ _ spans (omega arith) h.graph.inside) (omega (arith, h.first, h.many, h.tokened));
        few = omega (arith, length-append sets (set ∷ []), h.few);
      }

  -- a list graph and its rows after a set was added, where the lists are given by equations
  pub added : (sets2 : List ℕ) (edges2 : List Edge) (spans2 : List Span) → sets2 ≡ sets ++ set ∷ []
      → edges2 ≡ edges ++ joined cover.from tokens → spans2 ≡ spans ++ span ∷ []
      → IsAdded sets edges spans set cover tokens span
      → IsListGraph sets2 edges2 spans2 × (rows edges2 spans2 ≡ rows edges spans ++ joined cover.from tokens ∷ [])
  added sets2 edges2 spans2 a b c h = rw (a, b, c) (graph_added h, rows_added h)
