-- The roots of a user are nodes of a store.
use Rattle.std.proofs.Common.{◌≡◌, ℕ, ◌<◌, ◌∷◌, [], length, arith}
use Rattle.std.specs.Prelude.{None, not}
use Rattle.ov_base.specs.Sets.{single}
use Rattle.ov_base.specs.declared.limits.TheConstants.{MAX_LAYER_NODES}
use Rattle.ov_base.specs.declared.refusal.Refusal.TheVariants.{NoUser}
use Rattle.ov_history.specs.Asking.{key_refusal}
use Rattle.ov_history.specs.Catalogue.{Catalogue, Nodes, matrix_shown}
use Rattle.ov_history.specs.Layers.{root_of}
use Rattle.ov_history.specs.Lists.{is_user}
use Rattle.ov_history.specs.Sound.{IsLayer}
use Rattle.ov_history.proofs.PlanLaws.{node_for-there}
use Rattle.ov_history.proofs.SoundTests.{is_below, none_applies}
use Rattle.ov_state.specs.Contents.{IsWell}

root_low : (users user : ℕ) (nodes : Nodes) → IsLayer users nodes → user < users
    → root_of nodes.sets user < MAX_LAYER_NODES
root_low users user nodes layer there =
    omega (arith, (node_for-there nodes.sets (single user) (layer.rooted user there)).0, layer.few)

-- a user whose keys aren't refused has a root in each layer
pub roots_low : (limit : ℕ) (c : Catalogue) (user : ℕ) → IsWell limit c → key_refusal c user ≡ None
    → (root_of c.base.sets user < MAX_LAYER_NODES) × (root_of c.surface.sets user < MAX_LAYER_NODES)
roots_low limit c user well none =
    let there : user < length c.users =
    is_below user (length c.users)
    (none_applies ((NoUser, not (is_user (matrix_shown c) user)) ∷ []) none).0 in (
      root_low (length c.users) user c.base well.sound.base there,
      root_low (length c.users) user c.surface well.sound.surface there,
    )
