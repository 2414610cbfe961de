-- The marks of a state say which of its nodes have one of the users.
use Rattle.std.proofs.Common.{◌≡◌, ◌≢◌, ◌⊎◌, ◌<◌, ◌≤◌, ◌==◌, ◌||◌, ℕ, Bool, true, false, List, [], ◌∷◌, length}
use Rattle.std.proofs.Common.{refl, sym, ◌∙◌, ap, subst, inl, inr, arith, eq-eqb, get_or}
use Rattle.std.proofs.Common.{◌++◌, drop, take}
use Rattle.std.proofs.Math.Seq.{take-append_seam}
use Rattle.std.specs.Prelude.{All, Contains, Option, Some, None, map, option_map, slice_index, slice_set}
use Rattle.std.specs.Prelude.{unwrap_or}
use Rattle.std.proofs.lemmas.Bool.{cases_eq, cases_lt, ne_eqb}
use Rattle.std.proofs.lemmas.List.{get_or-map, get_or-set_other, get_or-set_same, get_or_past}
use Rattle.std.proofs.lemmas.List.{length-map, length-set}
use Rattle.ov_base.specs.Sets.{has, meets}
use Rattle.ov_base.proofs.SetMeets.{meets-empty, meets-with, or_false, or_true}
use Rattle.ov_base_layer.specs.declared.grant.Grant.{Grant}
use Rattle.ov_base_layer.specs.Holders.{Access, access_of, accesses_of, with_accesses, with_if}
use Rattle.ov_base_layer.proofs.HolderLaws.{access_at}
use Rattle.ov_graph.proofs.ListLaws.{Contains-first, Contains-later}
use Rattle.ov_history.specs.Catalogue.{Catalogue, Filed, file_shown, matrix_shown, outline}
use Rattle.ov_history.specs.History.{File, file_at, no_file}
use Rattle.ov_history.specs.Layers.{holders, set_or}
use Rattle.ov_history.specs.Places.{living_at}
use Rattle.ov_history.specs.Sound.{IsSound}
use Rattle.ov_history.proofs.SoundTests.{shown_there}
use Rattle.ov_audit.specs.Marks.{covered_marks, held_marks, list_mark, listed_by, mark_at, marked_if}
use Rattle.ov_audit.specs.Marks.{AreMarksOf, marks_with}

-- ---- as many marks as nodes

length-marked_if : (b : Bool) (marks : List Bool) (node : ℕ)
    → length (marked_if b marks node) ≡ length marks
length-marked_if true marks node = length-set marks node true
length-marked_if false marks node = refl

length-marks_with : (users : ℕ) (accesses : List Access) (marks : List Bool)
    → length (marks_with users accesses marks) ≡ length marks
length-marks_with users [] marks = refl
length-marks_with users (access ∷ accesses) marks =
    length-marks_with users accesses (marked_if (has users access.user) marks access.node)
    ∙ length-marked_if (has users access.user) marks access.node

pub length-held : (users : ℕ) (c : Catalogue)
    → length (held_marks users c) ≡ length c.base.sets
length-held users c =
    length-marks_with users (accesses_of c.grants) (map (meets users) c.base.sets)
    ∙ length-map c.base.sets (meets users)

-- ---- the marks of holders

-- an access to the node lets its user in
joined : (users node set : ℕ) (a : Access) (b : Bool) → has users a.user ≡ b → a.node ≡ node
    → meets users (with_if (a.node == node) set a.user) ≡ (meets users set || b)
joined users node set a b one same =
    ap (λ t. meets users (with_if t set a.user)) (eq-eqb a.node node same)
    ∙ meets-with users set a.user ∙ ap (λ x. meets users set || x) one

-- and one to another node doesn't
apart : (users node set : ℕ) (a : Access) → (a.node ≡ node → ⊥)
    → meets users (with_if (a.node == node) set a.user) ≡ meets users set
apart users node set a other =
    ap (λ t. meets users (with_if t set a.user)) (ne_eqb a.node node other)

marked_by : (users node set : ℕ) (marks : List Bool) (a : Access) → node < length marks
    → mark_at marks node ≡ meets users set
    → (b : Bool) → has users a.user ≡ b → (a.node ≡ node) ⊎ (a.node ≡ node → ⊥)
    → mark_at (marked_if b marks a.node) node
    ≡ meets users (with_if (a.node == node) set a.user)
marked_by users node set marks a inside is true one (inl same) =
    ap (λ n. mark_at (slice_set marks n true) node) same
    ∙ get_or-set_same marks node true false inside
    ∙ sym (joined users node set a true one same ∙ or_true (meets users set))
marked_by users node set marks a inside is true one (inr other) =
    get_or-set_other marks a.node node true false (λ same. other (sym same)) ∙ is
    ∙ sym (apart users node set a other)
marked_by users node set marks a inside is false out (inl same) =
    is ∙ sym (joined users node set a false out same ∙ or_false (meets users set))
marked_by users node set marks a inside is false out (inr other) =
    is ∙ sym (apart users node set a other)

-- the mark of a node says after one access more whether one of the users is in its set then
marked_one : (users node set : ℕ) (marks : List Bool) (a : Access) → node < length marks
    → mark_at marks node ≡ meets users set
    → mark_at (marked_if (has users a.user) marks a.node) node
    ≡ meets users (with_if (a.node == node) set a.user)
marked_one users node set marks a inside is =
    marked_by users node set marks a inside is (has users a.user) refl (cases_eq a.node node)

marked_all : (users node : ℕ) (accesses : List Access) (set : ℕ) (marks : List Bool)
    → node < length marks → mark_at marks node ≡ meets users set
    → mark_at (marks_with users accesses marks) node
    ≡ meets users (with_accesses accesses node set)
marked_all users node [] set marks inside is = is
marked_all users node (a ∷ accesses) set marks inside is =
    marked_all users node accesses (with_if (a.node == node) set a.user)
    (marked_if (has users a.user) marks a.node)
    (omega (arith, inside, length-marked_if (has users a.user) marks a.node))
    (marked_one users node set marks a inside is)

-- nobody was given access to a node that isn't there
none_given : (accesses : List Access) (node set limit : ℕ)
    → ((access : Access) → Contains accesses access → access.node < limit) → limit ≤ node
    → with_accesses accesses node set ≡ set
none_given [] node set limit low past = refl
none_given (a ∷ accesses) node set limit low past =
    let here : a.node < limit = low a (Contains-first a accesses) in
    let other : a.node ≢ node = λ same. absurd (omega (arith, here, past, same)) in
    ap (λ t. with_accesses accesses node (with_if t set a.user)) (ne_eqb a.node node other)
    ∙ none_given accesses node set limit
    (λ access there. low access (Contains-later a accesses access there)) past

pub held_is : (users : ℕ) (c : Catalogue) → IsSound c → (node : ℕ)
    → mark_at (held_marks users c) node ≡ meets users (holders (outline c) node)
held_is users c sound node = elim (cases_lt node (length c.base.sets)) [
  | inl low ↦
      marked_all users node (accesses_of c.grants) (slice_index c.base.sets node)
      (map (meets users) c.base.sets) (omega (arith, low, length-map c.base.sets (meets users)))
      (get_or-map (meets users) c.base.sets node 0 false low)
  | inr past ↦
      get_or_past (held_marks users c) node false (omega (arith, past, length-held users c))
      ∙ sym
      (ap (meets users)
      (none_given (accesses_of c.grants) node (slice_index c.base.sets node) (length c.base.sets)
      sound.accesses.nodes past
      ∙ get_or_past c.base.sets node 0 past)
      ∙ meets-empty users)
]

-- ---- the marks of surfaces, and of lists

covered_is : (users : ℕ) (sets : List ℕ) (node : ℕ)
    → mark_at (map (meets users) sets) node ≡ meets users (slice_index sets node)
covered_is users sets node = elim (cases_lt node (length sets)) [
  | inl low ↦ get_or-map (meets users) sets node 0 false low
  | inr past ↦
      get_or_past (map (meets users) sets) node false
      (omega (arith, past, length-map sets (meets users)))
      ∙ sym (ap (meets users) (get_or_past sets node 0 past) ∙ meets-empty users)
]

list_is : (users : ℕ) (c : Catalogue) → IsSound c → (node : ℕ) (surface : Option ℕ)
    → list_mark (held_marks users c) (covered_marks users c) node surface
    ≡ meets users (set_or c.surface.sets surface (holders (outline c) node))
list_is users c sound node None = held_is users c sound node
list_is users c sound node (Some surface) = covered_is users c.surface.sets surface

pub listed_is : (users : ℕ) (c : Catalogue) → IsSound c → (file : ℕ)
    → listed_by (held_marks users c) (covered_marks users c) (living_at c.files file)
    ≡ meets users (file_at (matrix_shown c) file).list
listed_is users c sound file =
    by_file (living_at c.files file)
    ∙ ap (λ (o : Option File). meets users (unwrap_or o no_file).list)
    (sym (shown_there (outline c) c.files file)) where
      by_file : (o : Option Filed)
          → listed_by (held_marks users c) (covered_marks users c) o
          ≡ meets users (unwrap_or (option_map (file_shown (outline c)) o) no_file).list
      by_file None = sym (meets-empty users)
      by_file (Some f) = list_is users c sound f.node f.surface

-- ---- the marks of a state

-- each access token is to a base node that has a mark
pub nodes_marked : (users : ℕ) (c : Catalogue) (sets : List ℕ) (grants : List Grant)
    (marks : List Bool)
    → IsSound c → sets ≡ c.base.sets → grants ≡ c.grants → marks ≡ map (meets users) sets
    → All (λ (grant : Grant). grant.node < length marks) grants
nodes_marked users c sets grants marks sound base is made k d low =
    let node : (get_or grants k d).node < length c.base.sets =
    sound.accesses.nodes (access_of (get_or grants k d))
    (subst (λ (gs : List Grant). Contains (accesses_of gs) (access_of (get_or grants k d))) is
    (access_at grants k d low)) in
    omega (
      arith,
      node,
      ap length made,
      length-map sets (meets users),
      ap length base,
    )

-- marks that are written over all of a list are what it then has
pub written_back : (n : ℕ) (marks old : List Bool) → n ≡ length marks
    → take n (marks ++ drop (length marks) old) ≡ marks
written_back n marks old all =
    ap (λ k. take k (marks ++ drop (length marks) old)) all
    ∙ take-append_seam marks (drop (length marks) old)

-- the marks that two passes leave are those of the state
pub marks_are : (users : ℕ) (c : Catalogue) (base surface : List ℕ) (grants : List Grant)
    (first held covered : List Bool)
    → base ≡ c.base.sets → surface ≡ c.surface.sets → grants ≡ c.grants
    → first ≡ map (meets users) base → held ≡ marks_with users (accesses_of grants) first
    → covered ≡ map (meets users) surface
    → AreMarksOf users c held covered
marks_are users c base surface grants first held covered base_is surface_is grants_are made passed over = (
  passed
      ∙ ap (λ (gs : List Grant). marks_with users (accesses_of gs) first) grants_are
      ∙ ap (λ (marks : List Bool). marks_with users (accesses_of c.grants) marks)
      (made ∙ ap (λ (sets : List ℕ). map (meets users) sets) base_is),
  over ∙ ap (λ (sets : List ℕ). map (meets users) sets) surface_is,
)
