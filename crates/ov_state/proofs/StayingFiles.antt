-- Files that have their wanted surfaces, and the updates that leave them so.
use Rattle.std.specs.Prelude.{option_map}
use Rattle.ov_history.specs.Places.{living_at}
use Rattle.ov_history.specs.Layers.{want_at}
use Rattle.std.proofs.Common.{◌≡◌, ℕ, suc, ◌<◌, List, [], ◌∷◌, ◌++◌, length, refl, ◌∙◌, ap, subst, arith}
use Rattle.std.specs.Prelude.{Option, Some, None, IfSome}
use Rattle.ov_surface.specs.Wanted.{wanted_surface}
use Rattle.ov_history.specs.Layers.{Layers, Place, holders, list_at, lists_at, lists_of, surface_at, wants_at, wants_of}
use Rattle.ov_history.specs.Catalogue.{Filed, Catalogue, outline, place_of_file, places}
use Rattle.ov_history.proofs.Listing.{same_surface-is}
use Rattle.ov_state.specs.Contents.{IsWell}
use Rattle.ov_state.proofs.Staying.{IsAmong, AreKept}
use Rattle.ov_state.proofs.StayingNodes.{low_there}
use Rattle.ov_state.proofs.WellSettled.{AllSettled, each-settled}

-- ---- the files of a state

-- a wanted set whose node is there is among the sets
among_there : (sets : List ℕ) (want : Option ℕ) (surface : Option ℕ) → surface ≡ surface_at sets want
    → IfSome surface (λ n. n < length sets) → IsAmong sets want
among_there sets None surface own there = tt
among_there sets (Some set) surface own there =
    low_there sets set (subst (λ (o : Option ℕ). IfSome o (λ n. n < length sets)) own there)

kept_files : (y : Layers) (files : List (Option Filed)) → AllSettled y (places files)
    → ((file : ℕ) (f : Filed) → living_at files file ≡ Some f → IfSome f.surface (λ n. n < length y.surface))
    → AreKept y.surface (wants_at y (lists_at y (places files)) (places files)) files
kept_files y [] settled there = tt
kept_files y (None ∷ files) (first, rest) there = (tt, tt, kept_files y files rest (λ file g is. there (suc file) g is))
kept_files y (Some f ∷ files) (first, rest) there =
    let p : Place = place_of_file f in
    let want : Option ℕ = wanted_surface y.mode (list_at y p) (holders y f.node) in
    let own : f.surface ≡ surface_at y.surface want = same_surface-is f.surface (surface_at y.surface want) first in (
      among_there y.surface want f.surface own (there 0 f refl),
      own,
      kept_files y files rest (λ file g is. there (suc file) g is),
    )

-- each file of a state has its wanted surface among the surface sets
pub files_kept : (limit : ℕ) (s : Catalogue) → IsWell limit s
    → AreKept s.surface.sets (wants_of (outline s) (lists_of (outline s))) s.files
files_kept limit s well =
    kept_files (outline s) s.files (each-settled (outline s) s.files well.settled)
    (λ file f is. (well.sound.files file f is).surface)

-- ---- wants that stay

-- the nodes of these places are there
abbrev pub IsBelowIf : ℕ → Option Filed → Type 0
IsBelowIf nodes None = Unit {0}
IsBelowIf nodes (Some f) = f.node < nodes

abbrev pub AreBelow : ℕ → List (Option Filed) → Type 0
AreBelow nodes [] = Unit {0}
AreBelow nodes (f ∷ files) = IsBelowIf nodes f × AreBelow nodes files

pub each-below : (nodes : ℕ) (files : List (Option Filed)) → ((file : ℕ) (f : Filed) → living_at files file ≡ Some f → f.node < nodes)
    → AreBelow nodes files
each-below nodes [] each = tt
each-below nodes (None ∷ files) each = (tt, each-below nodes files (λ file g is. each (suc file) g is))
each-below nodes (Some f ∷ files) each = (each 0 f refl, each-below nodes files (λ file g is. each (suc file) g is))

pub files_below : (limit : ℕ) (s : Catalogue) → IsWell limit s → AreBelow (length s.base.sets) s.files
files_below limit s well = each-below (length s.base.sets) s.files (λ file f is. (well.sound.files file f is).base)

-- layers in which the nodes of the one have the same holders
abbrev pub HasHolders : Layers → Layers → Type 0
HasHolders y z = (node : ℕ) → node < length y.base → holders z node ≡ holders y node

pub wants-stay : (y z : Layers) → z.mode ≡ y.mode → HasHolders y z → (lists : List (Option ℕ)) (files : List (Option Filed))
    → AreBelow (length y.base) files → wants_at z lists (places files) ≡ wants_at y lists (places files)
wants-stay y z mode same [] files below = refl
wants-stay y z mode same (list ∷ lists) [] below = refl
wants-stay y z mode same (list ∷ lists) (f ∷ files) (low, rest) =
    ap (λ (w : Option ℕ). w ∷ wants_at z lists (places files)) (one list f low)
    ∙ ap (λ (wants : List (Option ℕ)). want_at y list (option_map place_of_file f) ∷ wants)
    (wants-stay y z mode same lists files rest) where
      one : (list : Option ℕ) (f : Option Filed) → IsBelowIf (length y.base) f
          → want_at z list (option_map place_of_file f) ≡ want_at y list (option_map place_of_file f)
      one None f low = refl
      one (Some list) None low = refl
      one (Some list) (Some f) low =
          ap (λ m. wanted_surface m list (holders z f.node)) mode
          ∙ ap (λ held. wanted_surface y.mode list held) (same f.node low)

-- the wanted sets with one file more
pub wants-append : (z : Layers) (lists : List (Option ℕ)) (files : List (Option Filed)) (list : ℕ) (f : Filed)
    → length lists ≡ length files
    → wants_at z (lists ++ Some list ∷ []) (places (files ++ Some f ∷ []))
    ≡ wants_at z lists (places files) ++ wanted_surface z.mode list (holders z f.node) ∷ []
wants-append z [] [] list f many = refl
wants-append z [] (first ∷ files) list f many = absurd (omega arith)
wants-append z (other ∷ lists) [] list f many = absurd (omega arith)
wants-append z (other ∷ lists) (first ∷ files) list f many =
    ap (λ (wants : List (Option ℕ)). want_at z other (option_map place_of_file first) ∷ wants) (wants-append z lists files list f (omega arith))
