-- What is to be listed of a history.
use Rattle.std.specs.Prelude.{◌≡◌, ℕ, List, [], ◌∷◌, map, Option, Some, None}
use Rattle.ov_history.specs.History.{File, History, Matrix, epoch_of, matrix_of}
use Rattle.ov_history.specs.Lists.{file_at, file_number, names_in}
use Rattle.ov_history.specs.Sealed.{IsSealed, outer_of}
use Rattle.ov_protocol.specs.Serving.{Service}
use Rattle.ov_listing.specs.declared.listing.Listed.{Listed}
use Rattle.ov_listing.specs.declared.listing.Listing.{Listing}
use Rattle.ov_listing.specs.declared.listing.Wanted.{Wanted}
use Rattle.ov_listing.specs.declared.listing.Wanted.TheVariants.{Files, Users}

-- a file of this name, with the names of the users in its list, in the order of their numbers
abbrev pub listed : Matrix → List ℕ → Listed
listed m file = record {
  file = file;
  names = names_in (file_at m (file_number m file)).list m.users;
}

-- the names of the files that aren't gone, in the order of their numbers
abbrev pub living_names : List (Option File) → List (List ℕ)
living_names [] = []
living_names (None ∷ files) = living_names files
living_names (Some file ∷ files) = file.name ∷ living_names files

-- the files that are wanted, in the order of their numbers
abbrev pub files_wanted : Wanted → Matrix → List Listed
files_wanted Users m = []
files_wanted Files m = map (listed m) (living_names m.files)

-- mode and epoch of the history, the users of its matrix in the order of their numbers, and the
-- files that are wanted
pub record IsListingOf (wanted : Wanted) (h : History) (listing : Listing) : Type 0 where
  pub mode : listing.mode ≡ h.mode
  pub epoch : listing.epoch ≡ epoch_of h
  pub users : listing.users.items ≡ (matrix_of h).users
  pub files : listing.files.items ≡ files_wanted wanted (matrix_of h)

-- the listing is that of the history which is served, where none of its updates is refused
abbrev pub IsListingAt : Wanted → Listing → Service → Type 0
IsListingAt wanted listing w =
    IsSealed w.history → IsListingOf wanted (outer_of w.history) listing
