-- Sets that are among those of a layer, and files that have their wanted surfaces: they stay.
use Rattle.std.specs.Prelude.{option_map}
use Rattle.std.proofs.Common.{◌≡◌, ℕ, Bool, true, false, List, [], ◌∷◌, ◌++◌, refl, sym, ◌∙◌, ap}
use Rattle.std.specs.Prelude.{Contains, Option, Some, None}
use Rattle.std.proofs.lemmas.List.{append-nil}
use Rattle.std.proofs.lemmas.List.Elements.{Contains-append_left}
use Rattle.ov_graph.specs.Contents.{joined, plan_of}
use Rattle.ov_tokens.specs.declared.label.Kind.TheVariants.{Surface}
use Rattle.ov_base_layer.specs.Seals.{cover_tokens}
use Rattle.ov_history.specs.Layers.{appended, with_set, with_wants, surface_at}
use Rattle.ov_history.specs.Catalogue.{Nodes, Filed, Catalogue, added_if, with_surface, with_surfaces, refiled, settled_file, settled_files, settled_under}
use Rattle.ov_history.proofs.PlanLaws.{plan-there}
use Rattle.ov_state.proofs.StayingNodes.{node_for-append}
use Rattle.ov_state.proofs.WellSettled.{same_surface-true}

-- ---- wanted sets that are there

abbrev pub IsAmong : List ℕ → Option ℕ → Type 0
IsAmong sets None = Unit {0}
IsAmong sets (Some set) = Contains sets set

pub among-more : (sets more : List ℕ) (want : Option ℕ) → IsAmong sets want → IsAmong (sets ++ more) want
among-more sets more None among = tt
among-more sets more (Some set) among = Contains-append_left sets more set among

pub surface_at-more : (sets more : List ℕ) (want : Option ℕ) → IsAmong sets want
    → surface_at (sets ++ more) want ≡ surface_at sets want
surface_at-more sets more None among = refl
surface_at-more sets more (Some set) among = ap Some (node_for-append sets more set among)

-- the surface of a file is that of its wanted set, if it isn't gone
abbrev pub HasSurface : List ℕ → Option ℕ → Option Filed → Type 0
HasSurface sets want None = Unit {0}
HasSurface sets want (Some f) = f.surface ≡ surface_at sets want

-- each file has its wanted surface among these sets
abbrev pub AreKept : List ℕ → List (Option ℕ) → List (Option Filed) → Type 0
AreKept sets [] [] = Unit {0}
AreKept sets [] (f ∷ files) = ⊥
AreKept sets (want ∷ wants) [] = ⊥
AreKept sets (want ∷ wants) (f ∷ files) =
    IsAmong sets want × HasSurface sets want f × AreKept sets wants files

surface-more : (sets more : List ℕ) (want : Option ℕ) (f : Option Filed) → IsAmong sets want → HasSurface sets want f
    → HasSurface (sets ++ more) want f
surface-more sets more want None among own = tt
surface-more sets more want (Some f) among own = own ∙ sym (surface_at-more sets more want among)

pub kept-more : (sets more : List ℕ) (wants : List (Option ℕ)) (files : List (Option Filed)) → AreKept sets wants files
    → AreKept (sets ++ more) wants files
kept-more sets more [] [] kept = tt
kept-more sets more [] (f ∷ files) kept = absurd kept
kept-more sets more (want ∷ wants) [] kept = absurd kept
kept-more sets more (want ∷ wants) (f ∷ files) (among, own, rest) = (
  among-more sets more want among,
  surface-more sets more want f among own,
  kept-more sets more wants files rest,
)

pub kept-with_set : (sets : List ℕ) (set : ℕ) (wants : List (Option ℕ)) (files : List (Option Filed)) → AreKept sets wants files
    → AreKept (with_set sets set) wants files
kept-with_set sets set wants files kept = by_test (plan_of sets set).fresh where
  by_test : (b : Bool) → AreKept (appended b sets set) wants files
  by_test true = kept-more sets (set ∷ []) wants files kept
  by_test false = kept

-- files keep their wanted surfaces behind wanted sets that come after theirs
pub kept-with_wants : (sets : List ℕ) (more wants : List (Option ℕ)) (files : List (Option Filed)) → AreKept sets wants files
    → AreKept (with_wants sets more) wants files
kept-with_wants sets [] wants files kept = kept
kept-with_wants sets (None ∷ more) wants files kept = kept-with_wants sets more wants files kept
kept-with_wants sets (Some set ∷ more) wants files kept =
    kept-with_wants (with_set sets set) more wants files (kept-with_set sets set wants files kept)

-- ---- nothing is added

module _ (master : List ℕ) where
  one_stays : (nodes : Nodes) (set : ℕ) → Contains nodes.sets set → with_surface master nodes set ≡ nodes
  one_stays nodes set there =
      ap (λ b. added_if b nodes set (joined (plan_of nodes.sets set).from (cover_tokens Surface master (plan_of nodes.sets set))))
      (plan-there nodes.sets set there)

  -- kept files want no new nodes
  pub surfaces-kept : (nodes : Nodes) (wants more : List (Option ℕ)) (files : List (Option Filed)) → AreKept nodes.sets wants files
      → with_surfaces master nodes (wants ++ more) ≡ with_surfaces master nodes more
  surfaces-kept nodes [] more files kept = refl
  surfaces-kept nodes (want ∷ wants) more [] kept = absurd kept
  surfaces-kept nodes (None ∷ wants) more (f ∷ files) (among, own, rest) = surfaces-kept nodes wants more files rest
  surfaces-kept nodes (Some set ∷ wants) more (f ∷ files) (among, own, rest) =
      ap (λ (n : Nodes). with_surfaces master n (wants ++ more)) (one_stays nodes set among)
      ∙ surfaces-kept nodes wants more files rest

pub wants-kept : (sets : List ℕ) (wants more : List (Option ℕ)) (files : List (Option Filed)) → AreKept sets wants files
    → with_wants sets (wants ++ more) ≡ with_wants sets more
wants-kept sets [] more files kept = refl
wants-kept sets (want ∷ wants) more [] kept = absurd kept
wants-kept sets (None ∷ wants) more (f ∷ files) (among, own, rest) = wants-kept sets wants more files rest
wants-kept sets (Some set ∷ wants) more (f ∷ files) (among, own, rest) =
    ap (λ b. with_wants (appended b sets set) (wants ++ more)) (plan-there sets set among)
    ∙ wants-kept sets wants more files rest

module _ (epoch : ℕ) (sets : List ℕ) where
  file_stays : (want : Option ℕ) (f : Filed) → f.surface ≡ surface_at sets want → settled_file epoch sets want f ≡ f
  file_stays want f own =
      ap (λ b. refiled b epoch (surface_at sets want) f) (same_surface-true f.surface (surface_at sets want) own)

  either_stays : (want : Option ℕ) (f : Option Filed) → HasSurface sets want f
      → option_map (settled_file epoch sets want) f ≡ f
  either_stays want None own = refl
  either_stays want (Some f) own = ap Some (file_stays want f own)

  -- kept files stay as they are
  pub files-kept : (wants more : List (Option ℕ)) (files new : List (Option Filed)) → AreKept sets wants files
      → settled_files epoch sets (wants ++ more) (files ++ new) ≡ files ++ settled_files epoch sets more new
  files-kept [] more [] new kept = refl
  files-kept [] more (f ∷ files) new kept = absurd kept
  files-kept (want ∷ wants) more [] new kept = absurd kept
  files-kept (want ∷ wants) more (f ∷ files) new (among, own, rest) =
      ap (λ (g : Option Filed). g ∷ settled_files epoch sets (wants ++ more) (files ++ new)) (either_stays want f own)
      ∙ ap (λ (gs : List (Option Filed)). f ∷ gs) (files-kept wants more files new rest)

-- ---- the catalogue

module _ (master : List ℕ) (s : Catalogue) (wants : List (Option ℕ)) (kept : AreKept s.surface.sets wants s.files) where
  pub no_more : with_wants s.surface.sets wants ≡ s.surface.sets
  no_more =
      ap (λ ws. with_wants s.surface.sets ws) (sym (append-nil wants)) ∙ wants-kept s.surface.sets wants [] s.files kept

  surfaces_stay : with_surfaces master s.surface wants ≡ s.surface
  surfaces_stay =
      ap (λ ws. with_surfaces master s.surface ws) (sym (append-nil wants))
      ∙ surfaces-kept master s.surface wants [] s.files kept

  files_stay : settled_files s.epoch s.surface.sets wants s.files ≡ s.files
  files_stay =
      ap (λ ws. settled_files s.epoch s.surface.sets ws s.files) (sym (append-nil wants))
      ∙ ap (λ (fs : List (Option Filed)). settled_files s.epoch s.surface.sets (wants ++ []) fs) (sym (append-nil s.files))
      ∙ files-kept s.epoch s.surface.sets wants [] s.files [] kept
      ∙ append-nil s.files

  -- the catalogue stays where each file has its wanted surface
  pub settled_stays : settled_under master s wants ≡ s
  settled_stays =
      ap (λ (nodes : Nodes). record s {
        surface = nodes;
        files = settled_files s.epoch (with_wants s.surface.sets wants) wants s.files;
      }) surfaces_stay
      ∙ ap (λ sets. record s { files = settled_files s.epoch sets wants s.files }) no_more
      ∙ ap (λ (files : List (Option Filed)). record s { files = files }) files_stay
