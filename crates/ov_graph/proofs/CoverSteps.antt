-- The steps of the loops that find and keep candidates.
use Rattle.std.proofs.Common.{ℕ, ◌≡◌, ◌<◌, ◌+◌, ◌-◌, Bool, true, false, List, [], ◌∷◌, ◌++◌, length, get_or, drop, refl, append_assoc, add-one}
use Rattle.std.proofs.Math.Seq.{drop-cons}
use Rattle.ov_base.specs.Sets.{size, union, within}
use Rattle.ov_base.proofs.SetLaws.{within-Within, union_within_left}
use Rattle.ov_graph.specs.declared.covering.Candidate.{Candidate}
use Rattle.ov_graph.specs.Cover.{put_if, is_candidate, candidates_from, kept}
use Rattle.ov_graph.specs.Candidates.{entries, nodes_of}

drop_step : {X : Type 0} (xs : List X) (i : ℕ) (d : X) → i < length xs
    → drop i xs ≡ get_or xs i d ∷ drop (i + 1) xs
drop_step xs i d h = rw add-one (drop-cons xs i d h)

module _ (all : List ℕ) (set node earlier : ℕ) (found more : List Candidate) (inside : node < length all) (is : earlier ≡ get_or all node 0) where
  ahead : (b : Bool) → is_candidate set earlier ≡ b
      → candidates_from set node (drop node all) ≡ put_if b node (candidates_from set (node + 1) (drop (node + 1) all))
  ahead b test = rw (drop_step all node 0 inside, ← is, test) refl

  -- a candidate is found
  pub found_step : (lacks : ℕ) → is_candidate set earlier ≡ true → lacks ≡ size set - size earlier
      → more ≡ found ++ record { node = node; lacks = lacks } ∷ []
      → more ++ entries all set (candidates_from set (node + 1) (drop (node + 1) all)) ≡ found ++ entries all set (candidates_from set node (drop node all))
  found_step lacks test size_is new = rw (ahead true test, new, size_is, is) (append_assoc found _ _)

  -- a node is passed that isn't a candidate
  pub passed_step : is_candidate set earlier ≡ false → more ≡ found
      → more ++ entries all set (candidates_from set (node + 1) (drop (node + 1) all)) ≡ found ++ entries all set (candidates_from set node (drop node all))
  passed_step test same = rw (ahead false test, same) refl

module _ (all : List ℕ) (cs : List Candidate) (i : ℕ) (d c : Candidate) (earlier : ℕ) (covered covered2 : ℕ) (from from2 : List ℕ) (inside : i < length cs) (here : get_or cs i d ≡ c) (is : earlier ≡ get_or all c.node 0) where
  next : nodes_of (drop i cs) ≡ c.node ∷ nodes_of (drop (i + 1) cs)
  next = rw (drop_step cs i d inside, here) refl

  -- a node is kept
  pub kept_step : within earlier covered ≡ false → from2 ≡ from ++ c.node ∷ []
      → covered2 ≡ union covered earlier
      → from2 ++ kept all covered2 (nodes_of (drop (i + 1) cs)) ≡ from ++ kept all covered (nodes_of (drop i cs))
  kept_step test new more = rw (next, ← is, test, new, more) (append_assoc from _ _)

  -- a node is skipped that adds no user
  pub skipped_step : within earlier covered ≡ true → from2 ≡ from → covered2 ≡ covered
      → from2 ++ kept all covered2 (nodes_of (drop (i + 1) cs)) ≡ from ++ kept all covered (nodes_of (drop i cs))
  skipped_step test same still =
      let whole : union covered earlier ≡ covered = union_within_left earlier covered (within-Within earlier covered test) in
      rw (next, ← is, test, same, still, whole) refl
