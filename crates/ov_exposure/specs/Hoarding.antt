-- That what can be read by labels comes out as bytes.
use Rattle.std.specs.Prelude.{◌≡◌, ℕ, Bool, List, [], ◌∷◌, Some, slice_index_or}
use Rattle.ov_tokens.specs.declared.label.Label.{Label}
use Rattle.ov_tokens.specs.Keys.{key_of_label}
use Rattle.ov_history.specs.Places.{living_at}
use Rattle.ov_history.specs.Plain.{PlainHistory, PlainUpdate, bytes_of, history_of}
use Rattle.ov_history.specs.Refusals.{IsLegal}
use Rattle.ov_history.specs.Words.{longer_plain}
use Rattle.ov_history.specs.Catalogue.{Catalogue, Filed}
use Rattle.ov_history.specs.Rewrites.{surface_key}
use Rattle.ov_history.specs.Masters.{Masters, access_key}
use Rattle.ov_history.specs.Sealed.{catalogue_of, stored_of}
use Rattle.ov_history.specs.Sealing.{sealed}
use Rattle.ov_history.specs.Kept.{opened}
use Rattle.ov_history.specs.Closure.{protecting}
use Rattle.ov_history.specs.Keys.{Derives, IsKeyOf}
use Rattle.ov_exposure.specs.Exposure.{CanRead, IsGiven}

-- from the keys of the labels that are held the key of each of these labels is derived
abbrev pub DeriveAll : Masters → Catalogue → (Label → Type 0) → List Label → Type 0
DeriveAll k c held [] = Unit {0}
DeriveAll k c held (label ∷ labels) =
    Derives c (IsKeyOf k held) label (key_of_label k.base k.surface label)
    × DeriveAll k c held labels

-- The users get the bytes of the file: over the tokens that are published after the history they
-- derive the keys of all labels that protected the file after some first part of it, and what was
-- stored then has the file's bytes under these keys.
abbrev pub GetsBytes : Bool → Masters → PlainHistory → List ℕ → ℕ → Type 0
GetsBytes server k p users file =
    let c = catalogue_of k.surface (sealed k p) in
    (before : PlainHistory) × (more : List PlainUpdate) × (f : Filed)
    × (p ≡ longer_plain before more)
    × (living_at (catalogue_of k.surface (sealed k before)).files file ≡ Some f)
    × DeriveAll k c (IsGiven server c users) (protecting f)
    × (opened (access_key k.base f.node) (surface_key k.surface f.surface) file
    (slice_index_or (stored_of k.surface (sealed k before)) file [])
    ≡ bytes_of p file)

-- users who can read a file of a legal history get its bytes
abbrev pub ReadersWereGivenBytes : Type 0
ReadersWereGivenBytes =
    (server : Bool) (k : Masters) (p : PlainHistory) (users : List ℕ) (file : ℕ)
    → IsLegal (history_of p) → CanRead server k.surface (sealed k p) users file
    → GetsBytes server k p users file
