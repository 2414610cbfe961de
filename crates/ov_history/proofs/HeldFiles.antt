-- A user's closure has every label that protects a file exactly where the file's list has the user.
use Rattle.std.proofs.Common.{◌≡◌, ◌<◌, ◌↔◌, ℕ, ◌∷◌, length}
use Rattle.std.specs.Prelude.{Option, Some, None, IfSome}
use Rattle.ov_base.specs.Sets.{Has, Within}
use Rattle.ov_tokens.specs.declared.label.Kind.TheVariants.{Access, Surface}
use Rattle.ov_tokens.specs.Labels.{label_of}
use Rattle.ov_history.specs.Layers.{holders, list_at, set_or}
use Rattle.ov_history.specs.Catalogue.{Catalogue, Filed, outline, place_of_file}
use Rattle.ov_history.specs.Closure.{HoldsFile, IsRootOf, ReachesAll, surface_label}
use Rattle.ov_history.specs.Sound.{IsSound}
use Rattle.ov_history.proofs.ClosureHolds.{holds_what_is_due}
use Rattle.ov_history.specs.Places.{living_at}

module _ (c : Catalogue) (sound : IsSound c) (user : ℕ) (there : user < length c.users) where
  file_listed : (surface : Option ℕ) (node : ℕ)
      → ReachesAll c (IsRootOf c user) (label_of Access node ∷ surface_label surface)
      → Has (set_or c.surface.sets surface (holders (outline c) node)) user
  file_listed None node held =
      ((holds_what_is_due c sound user there (label_of Access node)).0 held.0).1
  file_listed (Some over) node held =
      ((holds_what_is_due c sound user there (label_of Surface over)).0 held.1.0).1

  file_held : (surface : Option ℕ) (node : ℕ) → node < length c.base.sets
      → IfSome surface (λ n. n < length c.surface.sets)
      → Within (set_or c.surface.sets surface (holders (outline c) node)) (holders (outline c) node)
      → Has (set_or c.surface.sets surface (holders (outline c) node)) user
      → ReachesAll c (IsRootOf c user) (label_of Access node ∷ surface_label surface)
  file_held None node base covered inside listed =
      ((holds_what_is_due c sound user there (label_of Access node)).1 (base, listed), tt)
  file_held (Some over) node base covered inside listed = (
    (holds_what_is_due c sound user there (label_of Access node)).1 (base, inside user listed),
    ((holds_what_is_due c sound user there (label_of Surface over)).1 (covered, listed), tt),
  )

-- a file of sound layers is held by exactly the users of its list
pub held_where_listed : (c : Catalogue) (user file : ℕ) (f : Filed) → IsSound c
    → user < length c.users
    → living_at c.files file ≡ Some f
    → HoldsFile c user f ↔ Has (list_at (outline c) (place_of_file f)) user
held_where_listed c user file f sound there is =
    let placed = sound.files file f is in (
      file_listed c sound user there f.surface f.node,
      file_held c sound user there f.surface f.node placed.base placed.surface placed.list,
    )
