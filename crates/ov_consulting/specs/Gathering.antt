-- Files with their lists, gathered one by one.
use Rattle.std.specs.Prelude.{ℕ, List, map, take}
use Rattle.ov_history.specs.Catalogue.{Catalogue, matrix_shown}
use Rattle.ov_listing.specs.Listings.{listed, living_names}
use Rattle.ov_listing.specs.declared.listing.Listed.{Listed}

-- the files before this number that aren't gone, with their lists
abbrev pub files_before : ℕ → Catalogue → List Listed
files_before number c =
    map (listed (matrix_shown c)) (living_names (take number (matrix_shown c).files))
