-- The cover of a set by the sets before it. A list of sets gives each node's set at the node's
-- number.
use Rattle.std.specs.Prelude.{ℕ, zero, suc, ◌+◌, ◌==◌, ◌&&◌, not, Bool, true, false}
use Rattle.std.specs.Prelude.{List, [], ◌∷◌, ◌++◌, slice_index, filter}
use Rattle.ov_base.specs.Sets.{empty, size, union, within}

-- the item and then the list, where the test says so
abbrev pub put_if : Bool → ℕ → List ℕ → List ℕ
put_if true item list = item ∷ list
put_if false item list = list

-- a nonempty strict subset of the set
abbrev pub is_candidate : ℕ → ℕ → Bool
is_candidate set earlier = not (earlier == empty) && within earlier set && not (earlier == set)

-- the nodes of these sets, counted from a number on, whose sets are such subsets
abbrev pub candidates_from : ℕ → ℕ → List ℕ → List ℕ
candidates_from set node [] = []
candidates_from set node (earlier ∷ sets) =
    put_if (is_candidate set earlier) node (candidates_from set (node + 1) sets)

-- whether a node's set has just this many users
abbrev pub has_size : List ℕ → ℕ → ℕ → Bool
has_size sets users node = size (slice_index sets node) == users

-- the nodes whose sets have fewer than this many users: larger sets first, then in the order of the
-- list
abbrev pub larger_first : List ℕ → ℕ → List ℕ → List ℕ
larger_first sets zero nodes = []
larger_first sets (suc users) nodes =
    filter (has_size sets users) nodes ++ larger_first sets users nodes

-- the nodes whose sets, each at its turn, have a user that neither `covered` nor a kept node's set
-- has
abbrev pub kept : List ℕ → ℕ → List ℕ → List ℕ
kept sets covered [] = []
kept sets covered (node ∷ nodes) =
    put_if (not (within (slice_index sets node) covered)) node
    (kept sets (union covered (slice_index sets node)) nodes)

-- the starts of the edges to a set that comes after these sets, in order
abbrev pub cover_of : List ℕ → ℕ → List ℕ
cover_of sets set = kept sets empty (larger_first sets (size set) (candidates_from set 0 sets))
