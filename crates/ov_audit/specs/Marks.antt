-- Inner: no public contract needs this. Marks on the nodes of a state, kept in lists by node.
use Rattle.std.specs.Prelude.{◌≡◌, ℕ, Bool, true, false, List, [], ◌∷◌, map, slice_index_or}
use Rattle.std.specs.Prelude.{slice_set, Option, Some, None}
use Rattle.ov_base.specs.Sets.{has, meets}
use Rattle.ov_base_layer.specs.Holders.{Access, accesses_of}
use Rattle.ov_history.specs.Catalogue.{Catalogue, Filed}

-- the mark of this node; a node that isn't there has none
abbrev pub mark_at : List Bool → ℕ → Bool
mark_at marks node = slice_index_or marks node false

-- the marks, with one more on this node where the test says so
abbrev pub marked_if : Bool → List Bool → ℕ → List Bool
marked_if true marks node = slice_set marks node true
marked_if false marks node = marks

-- the marks, with one more on each node to which one of the users was given access
abbrev pub marks_with : ℕ → List Access → List Bool → List Bool
marks_with users [] marks = marks
marks_with users (access ∷ accesses) marks =
    marks_with users accesses (marked_if (has users access.user) marks access.node)

-- the marks of the base nodes that one of the users holds
abbrev pub held_marks : ℕ → Catalogue → List Bool
held_marks users c = marks_with users (accesses_of c.grants) (map (meets users) c.base.sets)

-- the marks of the surface nodes that have one of the users in their set
abbrev pub covered_marks : ℕ → Catalogue → List Bool
covered_marks users c = map (meets users) c.surface.sets

-- these are the marks of both layers
abbrev pub AreMarksOf : ℕ → Catalogue → List Bool → List Bool → Type 0
AreMarksOf users c held covered =
    (held ≡ held_marks users c) × (covered ≡ covered_marks users c)

-- the mark that says whether one of the users is in a list: that of the surface node, or that of the
-- base node where there is none
abbrev pub list_mark : List Bool → List Bool → ℕ → Option ℕ → Bool
list_mark held covered node None = mark_at held node
list_mark held covered node (Some surface) = mark_at covered surface

-- whether one of the users is in the list of a file, where it is there
abbrev pub listed_by : List Bool → List Bool → Option Filed → Bool
listed_by held covered None = false
listed_by held covered (Some f) = list_mark held covered f.node f.surface
