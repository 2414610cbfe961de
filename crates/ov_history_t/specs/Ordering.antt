-- In which order one update adds its surface nodes.
use Rattle.std.specs.Prelude.{◌≡◌, ◌≢◌, ℕ, ◌<◌, ◌≤◌, ◌+◌, length, slice_get, Some}
use Rattle.ov_history.specs.History.{Update, Enrolled, Created, Granted, Revoked, Removed, History}
use Rattle.ov_history.specs.History.{Replaced, with_update}
use Rattle.ov_history.specs.Layers.{layers_of}
use Rattle.ov_history.specs.Words.{HasFile, wanted_of}

-- how many roots an update adds to a layer: that of a new user
abbrev pub roots_of : Update → ℕ
roots_of (Enrolled user) = 1
roots_of (Created file list size) = 0
roots_of (Granted user file) = 0
roots_of (Revoked user file) = 0
roots_of (Removed file) = 0
roots_of (Replaced file size) = 0

-- the number of the first surface node that an update adds for a file
abbrev pub first_new : History → Update → ℕ
first_new h u = length (layers_of h).surface + roots_of u

-- after the update the surface node has the set
abbrev pub HasSet : History → Update → ℕ → ℕ → Type 0
HasSet h u node set = slice_get (layers_of (with_update h u)).surface node ≡ Some set

-- after the update the file is there, and the set is its wanted one
abbrev pub Wants : History → Update → ℕ → ℕ → Type 0
Wants h u file set = HasFile (with_update h u) file × (wanted_of (with_update h u) file ≡ Some set)

-- a surface node that an update adds for a file has the wanted set of some file
abbrev pub NewSetsAreWanted : Type 0
NewSetsAreWanted =
    (h : History) (u : Update) (node set : ℕ)
    → first_new h u ≤ node → HasSet h u node set → (file : ℕ) × Wants h u file set

-- a surface node that an update adds has a set that no node before it has
abbrev pub NewSetsAreNew : Type 0
NewSetsAreNew =
    (h : History) (u : Update) (node other set old : ℕ)
    → first_new h u ≤ node → HasSet h u node set → other < node → HasSet h u other old → old ≢ set

-- Of two surface nodes that an update adds for files the first has the set of a file that comes
-- before each file with the set of the second.
abbrev pub NewSetsAreInOrder : Type 0
NewSetsAreInOrder =
    (h : History) (u : Update) (node next set later : ℕ)
    → first_new h u ≤ node → node < next → HasSet h u node set → HasSet h u next later
    → (file : ℕ) × Wants h u file set × ((other : ℕ) → Wants h u other later → file < other)
