-- What the layers of a history are, in the words of its updates.
use Rattle.std.specs.Prelude.{◌≡◌, ℕ, ◌<◌, true, List, ◌∷◌, ◌++◌, length, slice_index, Option}
use Rattle.std.specs.Prelude.{Some, None, unwrap_or}
use Rattle.ov_base.specs.Sets.{Has}
use Rattle.ov_surface.specs.Wanted.{wanted_surface}
use Rattle.ov_tokens.specs.declared.label.Label.{Label}
use Rattle.ov_history.specs.History.{File, Update, Enrolled, Created, Granted, Revoked, Removed}
use Rattle.ov_history.specs.History.{Replaced, History, file_at, matrix_of}
use Rattle.ov_history.specs.Plain.{PlainUpdate, PlainHistory, bytes_of, history_of}
use Rattle.ov_history.specs.Lists.{is_file}
use Rattle.ov_history.specs.Places.{living_at}
use Rattle.ov_history.specs.Layers.{Place, no_place, node_for, node_of, holders, layers_of}
use Rattle.ov_history.specs.Catalogue.{filed_at}
use Rattle.ov_history.specs.Closure.{protecting}
use Rattle.ov_history.specs.Kept.{padded}
use Rattle.ov_history.specs.Masters.{Masters}
use Rattle.ov_history.specs.Sealed.{catalogue_of}
use Rattle.ov_history.specs.Sealing.{sealed}

-- the history with these updates alone
abbrev pub cut_to : History → List Update → History
cut_to h updates = record h { updates = updates }

-- the history with all these updates added
abbrev pub longer : History → List Update → History
longer h more = record h { updates = h.updates ++ more }

-- the plain history with all these updates added
abbrev pub longer_plain : PlainHistory → List PlainUpdate → PlainHistory
longer_plain p more = record p { updates = p.updates ++ more }

-- some update granted the user a file whose base node this was
abbrev pub WasGranted : History → ℕ → ℕ → Type 0
WasGranted h node user =
    (before : List Update) × (file : ℕ) × (after : List Update)
    × (h.updates ≡ before ++ Granted user file ∷ after)
    × (node_of (layers_of (cut_to h before)) file ≡ node)

-- the list of the file that an update makes, where it makes one: the list that it is created for,
-- or that of the file which it replaces
abbrev pub made_for : History → Update → Option ℕ
made_for h (Enrolled user) = None
made_for h (Created file list size) = Some list
made_for h (Granted user file) = None
made_for h (Revoked user file) = None
made_for h (Removed file) = None
made_for h (Replaced file size) = Some (file_at (matrix_of h) file).list

-- some update made a file whose base node this was, for a list that had the user
abbrev pub WasListed : History → ℕ → ℕ → Type 0
WasListed h node user =
    (before : List Update) × (u : Update) × (after : List Update) × (list : ℕ)
    × (h.updates ≡ before ++ u ∷ after)
    × (made_for (cut_to h before) u ≡ Some list) × Has list user
    × (node_for (layers_of (cut_to h before)).base list ≡ node)

-- ---- files

-- the file is there, and isn't gone
abbrev pub HasFile : History → ℕ → Type 0
HasFile h file = is_file (matrix_of h) file ≡ true

-- where a file is in the layers after the history
abbrev pub place_in : History → ℕ → Place
place_in h file = unwrap_or (living_at (layers_of h).files file) no_place

-- the surface set that a file which stands so should have: by its list, and by the holders of its
-- base node; one that is gone should have none
abbrev pub want_of : History → Place → Option File → Option ℕ
want_of h p None = None
want_of h p (Some f) = wanted_surface h.mode f.list (holders (layers_of h) p.node)

-- the surface set that a file should have
abbrev pub wanted_of : History → ℕ → Option ℕ
wanted_of h file = want_of h (place_in h file) (living_at (matrix_of h).files file)

-- ---- sets

-- no two nodes have one set
abbrev pub AreDistinct : List ℕ → Type 0
AreDistinct sets = (m n : ℕ) → m < length sets → n < length sets
    → slice_index sets m ≡ slice_index sets n → m ≡ n

-- ---- pads

-- After the history, sealed under these masters, the pad of the label's key for this file lies
-- over this text: the label is one of those that protect the file, and the text is the file's
-- bytes under the pads of those before it.
abbrev pub IsPadded : Masters → PlainHistory → Label → ℕ → List ℕ → Type 0
IsPadded k p label file text =
    HasFile (history_of p) file
    × (under : List Label) × (over : List Label)
    × (protecting (filed_at (catalogue_of k.surface (sealed k p)) file) ≡ under ++ label ∷ over)
    × (text ≡ padded k file under (bytes_of p file))
