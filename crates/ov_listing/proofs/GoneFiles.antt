-- Where a list is refused, no file has the name.
use Rattle.std.proofs.Common.{◌≡◌, ℕ, Bool, true, false, List, [], ◌∷◌, Option, Some, None}
use Rattle.std.proofs.Common.{refl}
use Rattle.std.specs.Prelude.{◌||◌, is_some, not}
use Rattle.std.specs.Str.{bytes_eq}
use Rattle.ov_base.specs.NameLists.{is_among}
use Rattle.ov_base.specs.Names.{IsName}
use Rattle.ov_base.specs.declared.refusal.Refusal.TheVariants.{NoFile}
use Rattle.ov_history.specs.History.{File, Matrix}
use Rattle.ov_history.specs.Lists.{file_names, file_number, is_file}
use Rattle.ov_history.specs.Places.{here_or_after, living_at, place_of}
use Rattle.ov_history.specs.Refusals.{first_of_tests, list_refusal}
use Rattle.ov_listing.specs.Listings.{living_names}

-- a file is there under another name than this, and no later one has it
past_other : (here later : Bool) (file : File) (files : List (Option File)) (place : ℕ)
    → (is_some (living_at files place) ≡ false → later ≡ false)
    → is_some (living_at (Some file ∷ files) (here_or_after here place)) ≡ false
    → (here || later) ≡ false
past_other true later file files place none gone = absurd (cc gone)
past_other false later file files place none gone = none gone

not_living : (first : ℕ) (rest : List ℕ) (files : List (Option File))
    → is_some (living_at files (place_of (first ∷ rest) (file_names files))) ≡ false
    → is_among (first ∷ rest) (living_names files) ≡ false
not_living first rest [] gone = refl
not_living first rest (None ∷ files) gone = not_living first rest files gone
not_living first rest (Some file ∷ files) gone =
    let name = first ∷ rest in
    past_other (bytes_eq name file.name) (is_among name (living_names files)) file files
    (place_of name (file_names files)) (not_living first rest files) gone

refused : (there : Bool) → first_of_tests ((NoFile, not there) ∷ []) ≡ Some NoFile
    → there ≡ false
refused true is = absurd (cc is)
refused false is = refl

-- a file that is gone has the empty name, which is no file's
pub none_named : (m : Matrix) (name : List ℕ) → IsName name
    → list_refusal m (file_number m name) ≡ Some NoFile
    → is_among name (living_names m.files) ≡ false
none_named m [] named is = absurd (cc named)
none_named m (first ∷ rest) named is =
    not_living first rest m.files (refused (is_file m (file_number m (first ∷ rest))) is)
