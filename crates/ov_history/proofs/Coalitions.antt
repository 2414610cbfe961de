-- Several users together hold what one of them holds, label by label.
use Rattle.std.proofs.Common.{◌≡◌, ◌<◌, ◌↔◌, ℕ, List, [], ◌∷◌, length}
use Rattle.std.specs.Prelude.{Contains, Option, Some, None}
use Rattle.ov_base.specs.Sets.{Has}
use Rattle.ov_tokens.specs.declared.label.Kind.TheVariants.{Access, Surface}
use Rattle.ov_tokens.specs.declared.label.Label.{Label}
use Rattle.ov_tokens.specs.Labels.{label_of}
use Rattle.ov_history.specs.Layers.{holders, list_at, set_or}
use Rattle.ov_history.specs.Catalogue.{Catalogue, Filed, outline, place_of_file}
use Rattle.ov_history.specs.Closure.{IsRootOf, IsRootOfSome, Reaches, ReachesAll, along, given}
use Rattle.ov_history.specs.Closure.{protecting, surface_label}
use Rattle.ov_history.specs.Sound.{IsSound}
use Rattle.ov_history.proofs.ClosureHolds.{holds_what_is_due}
use Rattle.ov_history.proofs.HeldFiles.{held_where_listed}
use Rattle.ov_history.specs.Places.{living_at}

-- each step has one label before it, and is therefore one member's
pub one_reaches : (c : Catalogue) (users : List ℕ) (label : Label)
    → Reaches c (IsRootOfSome c users) label
    → (user : ℕ) × Contains users user × Reaches c (IsRootOf c user) label
one_reaches c users label (given l (user, among, root)) = (user, among, given label root)
one_reaches c users label (along one next before leads) =
    let found = one_reaches c users one before in
    (found.0, found.1, along one label found.2 leads)

-- the coalition reaches what a member reaches
pub all_reach : (c : Catalogue) (users : List ℕ) (user : ℕ) (label : Label) → Contains users user
    → Reaches c (IsRootOf c user) label → Reaches c (IsRootOfSome c users) label
all_reach c users user label among (given l root) = given label (user, among, root)
all_reach c users user label among (along one next before leads) =
    along one label (all_reach c users user one among before) leads

pub all_reach_each : (c : Catalogue) (users : List ℕ) (user : ℕ) (labels : List Label)
    → Contains users user
    → ReachesAll c (IsRootOf c user) labels → ReachesAll c (IsRootOfSome c users) labels
all_reach_each c users user [] among held = tt
all_reach_each c users user (label ∷ labels) among held =
    (all_reach c users user label among held.0, all_reach_each c users user labels among held.1)

module _ (c : Catalogue) (sound : IsSound c) (users : List ℕ)
    (there : (user : ℕ) → Contains users user → user < length c.users) where
  one_listed : (surface : Option ℕ) (node : ℕ)
      → ReachesAll c (IsRootOfSome c users) (label_of Access node ∷ surface_label surface)
      → (user : ℕ) × Contains users user
      × Has (set_or c.surface.sets surface (holders (outline c) node)) user
  one_listed None node held =
      let (user, among, reached) = one_reaches c users (label_of Access node) held.0 in (
        user,
        among,
        ((holds_what_is_due c sound user (there user among) (label_of Access node)).0 reached).1,
      )
  one_listed (Some over) node held =
      let (user, among, reached) = one_reaches c users (label_of Surface over) held.1.0 in (
        user,
        among,
        ((holds_what_is_due c sound user (there user among) (label_of Surface over)).0 reached).1,
      )

-- a file is held by a coalition exactly where its list has one of them
pub held_by_coalition : (c : Catalogue) (users : List ℕ) (file : ℕ) (f : Filed) → IsSound c
    → ((user : ℕ) → Contains users user → user < length c.users)
    → living_at c.files file ≡ Some f
    → ReachesAll c (IsRootOfSome c users) (protecting f)
    ↔ ((user : ℕ) × Contains users user × Has (list_at (outline c) (place_of_file f)) user)
held_by_coalition c users file f sound there is = (
  one_listed c sound users there f.surface f.node,
  λ one. all_reach_each c users one.0 (protecting f) one.1
      ((held_where_listed c one.0 file f sound (there one.0 one.1) is).1 one.2),
)
