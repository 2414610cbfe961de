-- The list of a file, and those of the others where it is gone.
use Rattle.std.proofs.Common.{◌≡◌, ℕ, zero, suc, true, List, [], ◌∷◌, length, refl, sym, ◌∙◌, ap, subst}
use Rattle.std.specs.Prelude.{is_some, option_map, unwrap_or, Option, Some, None}
use Rattle.ov_base.specs.Sets.{empty as nobody, IsBelow}
use Rattle.ov_history.specs.Places.{change_at, gone, living_at}
use Rattle.ov_history.specs.Layers.{Layers, Place, list_at, list_in, lists_at, lists_of}
use Rattle.ov_history.specs.Catalogue.{Filed, Catalogue, filed_at, outline, place_of_file, places}
use Rattle.ov_history.specs.Sound.{IsSound}
use Rattle.ov_history.proofs.Outlining.{lists-at}
use Rattle.ov_state.proofs.FilesByNumber.{filed-there}
use Rattle.ov_state.proofs.WantedSets.{list_below}

-- ---- one list

-- the list of a file that is there is the one at its place
pub list_in-there : (s : Catalogue) (file : ℕ) → is_some (living_at s.files file) ≡ true
    → list_in (outline s) file ≡ list_at (outline s) (place_of_file (filed_at s file))
list_in-there s file there =
    ap (λ (list : Option ℕ). unwrap_or list nobody)
    (lists-at s file ∙ ap (λ (f : Option Filed). option_map (λ (f : Filed). list_at (outline s) (place_of_file f)) f) (filed-there s file there))

-- and it has users who are there
pub list_in-below : (s : Catalogue) (file : ℕ) → IsSound s → is_some (living_at s.files file) ≡ true
    → IsBelow (length s.users) (list_in (outline s) file)
list_in-below s file sound there =
    subst (λ (list : ℕ). IsBelow (length s.users) list) (sym (list_in-there s file there))
    (list_below s (filed_at s file) sound (sound.files file (filed_at s file) (filed-there s file there)))

-- ---- all lists

-- of a file that is gone the place is gone too
pub places-left : (file : ℕ) (files : List (Option Filed)) → places (change_at gone file files) ≡ change_at gone file (places files)
places-left file [] = refl
places-left zero (f ∷ files) = refl
places-left (suc file) (f ∷ files) =
    ap (λ (ps : List (Option Place)). option_map place_of_file f ∷ ps) (places-left file files)

-- layers that differ in their files alone give a place the same list
module _ (y : Layers) (other : List (Option Place)) where
  abbrev with_others : Layers
  with_others = record y { files = other }

  one_list : (p : Option Place) → option_map (list_at with_others) p ≡ option_map (list_at y) p
  one_list None = refl
  one_list (Some p) = refl

  same_lists : (placed : List (Option Place)) → lists_at with_others placed ≡ lists_at y placed
  same_lists [] = refl
  same_lists (p ∷ placed) =
      ap (λ (list : Option ℕ). list ∷ lists_at with_others placed) (one_list p)
      ∙ ap (λ (lists : List (Option ℕ)). option_map (list_at y) p ∷ lists) (same_lists placed)

-- of a place that is gone the list is gone too
lists-gone : (y : Layers) (file : ℕ) (placed : List (Option Place)) → lists_at y (change_at gone file placed) ≡ change_at gone file (lists_at y placed)
lists-gone y file [] = refl
lists-gone y zero (p ∷ placed) = refl
lists-gone y (suc file) (p ∷ placed) = ap (λ (lists : List (Option ℕ)). option_map (list_at y) p ∷ lists) (lists-gone y file placed)

-- where a file is gone, the others have their lists
pub lists-left : (s : Catalogue) (file : ℕ)
    → lists_of (outline (record s { files = change_at gone file s.files })) ≡ change_at gone file (lists_of (outline s))
lists-left s file =
    same_lists (outline s) (places (change_at gone file s.files)) (places (change_at gone file s.files))
    ∙ ap (lists_at (outline s)) (places-left file s.files)
    ∙ lists-gone (outline s) file (places s.files)
