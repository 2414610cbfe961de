-- Each file that was settled has the surface that it should have.
use Rattle.std.proofs.Common.{◌≡◌, ℕ, zero, suc, List, [], ◌∷◌, refl, sym, ◌∙◌, ap, subst, eq-eqb}
use Rattle.std.specs.Prelude.{Option, Some, None, option_map, IsTrue}
use Rattle.ov_history.specs.Places.{living_at}
use Rattle.ov_surface.specs.Wanted.{wanted_surface}
use Rattle.ov_history.specs.Briefs.{Brief}
use Rattle.ov_history.specs.Layers.{Layers, Place, holders, list_at, lists_at, lists_of, lists_after, grown, same_surface, surface_at, want_at, wants_at, wants_of, with_wants, settled_at, settled_all, settled}
use Rattle.ov_history.specs.Catalogue.{Filed, place_of_file, places, outline, Catalogue, catalogue_after}
use Rattle.ov_history.specs.Briefs.{outer}
use Rattle.ov_history.specs.Sealed.{HasParts}
use Rattle.ov_history.proofs.Listing.{AllAlike, settled_at-surface, settled_at-node, lists_of-settled, lists_after-alike}
use Rattle.ov_history.proofs.Outlining.{outline-after}
use Rattle.ov_state.specs.Contents.{HasItsSurface}

-- ---- one place

pub same_surface-true : (one other : Option ℕ) → one ≡ other → IsTrue (same_surface one other)
same_surface-true one other e = subst (λ (o : Option ℕ). IsTrue (same_surface one o)) e (itself one) where
  itself : (o : Option ℕ) → IsTrue (same_surface o o)
  itself None = refl
  itself (Some node) = eq-eqb node node refl

-- each of these places has the surface that it should have, in the layers
abbrev pub IsSettledIf : Layers → Option Place → Type 0
IsSettledIf y None = Unit {0}
IsSettledIf y (Some p) = HasItsSurface y p

abbrev pub AllSettled : Layers → List (Option Place) → Type 0
AllSettled y [] = Unit {0}
AllSettled y (p ∷ places) = IsSettledIf y p × AllSettled y places

first_same : {A : Type 0} (x y : A) (xs ys : List A) → x ∷ xs ≡ y ∷ ys → (x ≡ y) × (xs ≡ ys)
first_same x y xs ys e = (cc, cc)

module _ (y : Layers) (sets : List ℕ) (files : List (Option Place)) where
  abbrev after : Layers
  after = record y { surface = sets; files = files }

  one_settled : (list : ℕ) (p : Place) (q : Place) → q ≡ settled_at y.epoch sets (wanted_surface y.mode list (holders y p.node)) p
      → list_at after q ≡ list → HasItsSurface after q
  one_settled list p q made same =
      let want : Option ℕ = wanted_surface y.mode list (holders y p.node) in
      let surface : q.surface ≡ surface_at sets want =
      ap (λ (r : Place). r.surface) made ∙ settled_at-surface y.epoch sets want p in
      let node : q.node ≡ p.node = ap (λ (r : Place). r.node) made ∙ settled_at-node y.epoch sets want p in
      same_surface-true q.surface (surface_at sets (wanted_surface y.mode (list_at after q) (holders y q.node)))
      (surface
      ∙ ap (λ l. surface_at sets (wanted_surface y.mode l (holders y p.node))) (sym same)
      ∙ ap (λ n. surface_at sets (wanted_surface y.mode (list_at after q) (holders y n))) (sym node))

  -- the places that were settled for some lists, where these are the lists that they have
  settled_one : (list : Option ℕ) (p : Option Place)
      → option_map (list_at after) (option_map (settled_at y.epoch sets (want_at y list p)) p) ≡ list
      → IsSettledIf after (option_map (settled_at y.epoch sets (want_at y list p)) p)
  settled_one list None same = tt
  settled_one None (Some p) same = absurd (cc)
  settled_one (Some list) (Some p) same =
      let place : Place = settled_at y.epoch sets (wanted_surface y.mode list (holders y p.node)) p in
      let listed : list_at after place ≡ list = cc in
      one_settled list p place refl listed

  all_settled : (lists : List (Option ℕ)) (placed : List (Option Place))
      → lists_at after (settled_all y.epoch sets (wants_at y lists placed) placed) ≡ lists
      → AllSettled after (settled_all y.epoch sets (wants_at y lists placed) placed)
  all_settled [] [] same = tt
  all_settled [] (p ∷ placed) same = absurd (cc)
  all_settled (list ∷ lists) [] same = tt
  all_settled (list ∷ lists) (p ∷ placed) same =
      let place : Option Place = option_map (settled_at y.epoch sets (want_at y list p)) p in
      let parts = first_same (option_map (list_at after) place) list (lists_at after (settled_all y.epoch sets (wants_at y lists placed) placed)) lists same in
      (settled_one list p parts.0, all_settled lists placed parts.1)

-- ---- one update

pub layers_settled : (y : Layers) (lists : List (Option ℕ)) → AllAlike lists y.files
    → AllSettled (settled y lists) (settled y lists).files
layers_settled y lists many =
    let wants : List (Option ℕ) = wants_of y lists in
    let sets : List ℕ = with_wants y.surface wants in
    all_settled y sets (settled_all y.epoch sets wants y.files) lists y.files (lists_of-settled y lists many)

pub settled-each : (y : Layers) (files : List (Option Filed)) → AllSettled y (places files)
    → (file : ℕ) (f : Filed) → living_at files file ≡ Some f → HasItsSurface y (place_of_file f)
settled-each y [] all file f is = absurd (cc)
settled-each y (first ∷ files) all zero f is =
    subst (λ (o : Option Filed). IsSettledIf y (option_map place_of_file o)) is all.0
settled-each y (first ∷ files) all (suc file) f is = settled-each y files all.1 file f is

pub each-settled : (y : Layers) (files : List (Option Filed))
    → ((file : ℕ) (f : Filed) → living_at files file ≡ Some f → HasItsSurface y (place_of_file f))
    → AllSettled y (places files)
each-settled y [] each = tt
each-settled y (None ∷ files) each = (tt, each-settled y files (λ file g is. each (suc file) g is))
each-settled y (Some f ∷ files) each = (each 0 f refl, each-settled y files (λ file g is. each (suc file) g is))

-- after an update each file has the surface that it should have
pub settled_after : (master : List ℕ) (s : Catalogue) (u : Brief) → HasParts (outline s) u
    → AllSettled (outline (catalogue_after master s u)) (places (catalogue_after master s u).files)
settled_after master s u parts =
    subst (λ (y : Layers). AllSettled y y.files) (sym (outline-after master s u parts))
    (layers_settled (grown (outline s) (outer u)) (lists_after (lists_of (outline s)) (outer u)) (lists_after-alike (outline s) (outer u)))
