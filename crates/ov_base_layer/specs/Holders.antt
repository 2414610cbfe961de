-- The holders of a base node: the users of its set, and those who were given access to it.
use Rattle.std.specs.Prelude.{◌≡◌, ℕ, ◌==◌, ◌<◌, ◌⊎◌, Bool, true, false, List, [], ◌∷◌}
use Rattle.std.specs.Prelude.{length, map, take, slice_get, slice_index, Contains, Some}
use Rattle.ov_base.specs.Sets.{with, Has}
use Rattle.ov_base_layer.specs.declared.grant.Grant.{Grant}

-- that a user was given access to a node
pub record Access : Type 0 where
  pub user : ℕ
  pub node : ℕ

-- the user and the node of an access token
abbrev pub access_of : Grant → Access
access_of grant = record { user = grant.user; node = grant.node }

-- the users and nodes of access tokens, in order
abbrev pub accesses_of : List Grant → List Access
accesses_of grants = map access_of grants

-- the set, with the user where the test says so
abbrev pub with_if : Bool → ℕ → ℕ → ℕ
with_if true set user = with set user
with_if false set user = set

-- the set, and every user who was given access to the node
abbrev pub with_accesses : List Access → ℕ → ℕ → ℕ
with_accesses [] node set = set
with_accesses (access ∷ accesses) node set =
    with_accesses accesses node (with_if (access.node == node) set access.user)

-- the holders of a node, from the nodes' sets and the accesses that were given
abbrev pub holders_in : List ℕ → List Access → ℕ → ℕ
holders_in sets accesses node = with_accesses accesses node (slice_index sets node)

-- the user is in the node's set, or was given access to the node
abbrev pub IsHolder : List ℕ → List Access → ℕ → ℕ → Type 0
IsHolder sets accesses node user =
    Has (slice_index sets node) user ⊎ Contains accesses (record { user = user; node = node })

-- what holds of the accesses that were given: each user is below the limit, each node is there, and
-- each was given to a user who wasn't a holder of the node by those before it
pub record AreFirst (limit : ℕ) (sets : List ℕ) (accesses : List Access) : Type 0 where
  pub users : (access : Access) → Contains accesses access → access.user < limit
  pub nodes : (access : Access) → Contains accesses access → access.node < length sets
  pub first : (n : ℕ) (access : Access)
      → slice_get accesses n ≡ Some access
      → ¬ Has (holders_in sets (take n accesses) access.node) access.user
