-- The files, each with its wanted surface.
use Rattle.std.proofs.Common.{◌≡◌, ℕ, zero, suc, ◌<◌, Bool, true, false, List, [], ◌∷◌, length}
use Rattle.std.proofs.Common.{get_or, refl, sym, ◌∙◌, ap, subst}
use Rattle.std.specs.Prelude.{Contains, Option, Some, None, IfSome}
use Rattle.ov_base.specs.Sets.{Within}
use Rattle.ov_graph.proofs.ListLaws.{Contains-first, Contains-later}
use Rattle.ov_surface.specs.Wanted.{wanted_surface}
use Rattle.ov_history.specs.Layers.{Layers, holders, node_for, same_surface, set_or, surface_at}
use Rattle.ov_history.specs.Layers.{wants_at}
use Rattle.ov_history.specs.Catalogue.{Catalogue, Filed, outline, places, refiled, settled_file}
use Rattle.ov_history.specs.Catalogue.{settled_files}
use Rattle.ov_history.specs.Sound.{IsPlaced}
use Rattle.ov_history.proofs.Listing.{same_surface-is}
use Rattle.ov_history.proofs.PlanLaws.{node_for-there}
use Rattle.ov_history.proofs.SoundLists.{AreHeld, wanted-is}
use Rattle.std.specs.Prelude.{option_map}
use Rattle.ov_history.specs.Places.{living_at}
use Rattle.ov_history.specs.Layers.{want_at}
use Rattle.ov_history.specs.Catalogue.{place_of_file}

-- ---- where a file is in the layers

module _ (c : Catalogue) (f : Filed) (there : f.node < length c.base.sets) where
  -- a file without a surface is placed
  bare : f.surface ≡ None → IsPlaced c f
  bare e = record {
    base = there;
    surface = subst (λ o. IfSome o (λ n. n < length c.surface.sets)) (sym e) tt;
    list =
        subst
        (λ o. Within (set_or c.surface.sets o (holders (outline c) f.node))
        (holders (outline c) f.node)) (sym e) (λ user one. one);
  }

  -- a file is placed whose surface has a set within the holders
  coated : (node set : ℕ) → f.surface ≡ Some node → node < length c.surface.sets
      → get_or c.surface.sets node 0 ≡ set → Within set (holders (outline c) f.node) → IsPlaced c f
  coated node set e below is held = record {
    base = there;
    surface = subst (λ o. IfSome o (λ n. n < length c.surface.sets)) (sym e) below;
    list =
        subst
        (λ o. Within (set_or c.surface.sets o (holders (outline c) f.node))
        (holders (outline c) f.node)) (sym e)
        (subst (λ users. Within users (holders (outline c) f.node)) (sym is) held);
  }

-- ---- a file that is settled

module _ (epoch : ℕ) (sets : List ℕ) (want : Option ℕ) (f : Filed) where
  pub settled-node : (settled_file epoch sets want f).node ≡ f.node
  settled-node = by_test (same_surface f.surface (surface_at sets want)) where
    by_test : (b : Bool) → (refiled b epoch (surface_at sets want) f).node ≡ f.node
    by_test true = refl
    by_test false = refl

  pub settled-surface : (settled_file epoch sets want f).surface ≡ surface_at sets want
  settled-surface = by_test (same_surface f.surface (surface_at sets want)) refl where
    by_test : (b : Bool) → same_surface f.surface (surface_at sets want) ≡ b
        → (refiled b epoch (surface_at sets want) f).surface ≡ surface_at sets want
    by_test true e = same_surface-is f.surface (surface_at sets want) e
    by_test false e = refl

module _ (epoch : ℕ) (c : Catalogue) where
  -- a file that is settled is placed: its surface has its list, and else it has no surface
  settled_placed : (want : Option ℕ) (list : ℕ) (f : Filed)
      → f.node < length c.base.sets → Within list (holders (outline c) f.node)
      → ((set : ℕ) → want ≡ Some set → (list ≡ set) × Contains c.surface.sets set)
      → IsPlaced c (settled_file epoch c.surface.sets want f)
  settled_placed want list f there held known = by_want want refl where
    settled : Filed
    settled = settled_file epoch c.surface.sets want f

    stays : settled.node ≡ f.node
    stays = settled-node epoch c.surface.sets want f

    node_there : settled.node < length c.base.sets
    node_there = subst (λ n. n < length c.base.sets) (sym stays) there

    now : (other : Option ℕ) → want ≡ other → settled.surface ≡ surface_at c.surface.sets other
    now other e = settled-surface epoch c.surface.sets want f ∙ ap (surface_at c.surface.sets) e

    by_want : (other : Option ℕ) → want ≡ other → IsPlaced c settled
    by_want None e = bare c settled node_there (now None e)
    by_want (Some set) e =
        let (is, has_set) = known set e in
        let own = node_for-there c.surface.sets set has_set in
        let inside : Within set (holders (outline c) f.node) =
        subst (λ users. Within users (holders (outline c) f.node)) is held in
        coated c settled node_there (node_for c.surface.sets set) set (now (Some set) e) own.0 own.1
        (subst (λ n. Within set (holders (outline c) n)) (sym stays) inside)

  -- all of the files are placed
  pub all_placed : (y : Layers) (lists : List (Option ℕ)) (files : List (Option Filed))
      → AreHeld (outline c) lists (places files)
      → ((set : ℕ) → Contains (wants_at y lists (places files)) (Some set)
      → Contains c.surface.sets set)
      → (file : ℕ) (f : Filed)
      → living_at (settled_files epoch c.surface.sets (wants_at y lists (places files)) files) file
      ≡ Some f
      → IsPlaced c f
  all_placed y [] [] h known file f is = absurd (cc)
  all_placed y [] (first ∷ files) h known file f is = absurd h
  all_placed y (list ∷ lists) [] h known file f is = absurd h
  all_placed y (None ∷ lists) (None ∷ files) (one, rest) known zero f is = absurd (cc)
  all_placed y (None ∷ lists) (Some first ∷ files) (one, rest) known zero f is = absurd one
  all_placed y (Some list ∷ lists) (None ∷ files) (one, rest) known zero f is = absurd one
  all_placed y (Some list ∷ lists) (Some first ∷ files) (one, rest) known zero f is =
      let want : Option ℕ = wanted_surface y.mode list (holders y first.node) in
      let wants : List (Option ℕ) = wants_at y lists (places files) in
      let same : settled_file epoch c.surface.sets want first ≡ f = cc in
      subst (λ (g : Filed). IsPlaced c g) same
      (settled_placed want list first one.0 one.1 (λ set e. (
        wanted-is y.mode list (holders y first.node) set e,
        known set
            (subst (λ (o : Option ℕ). Contains (want ∷ wants) o) e (Contains-first want wants)),
      )))
  all_placed y (list ∷ lists) (first ∷ files) (one, rest) known (suc file) f is =
      let want : Option ℕ = want_at y list (option_map place_of_file first) in
      let wants : List (Option ℕ) = wants_at y lists (places files) in
      all_placed y lists files rest
      (λ set later. known set (Contains-later want wants (Some set) later))
      file f is
