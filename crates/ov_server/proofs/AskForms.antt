-- What is told of users and files is within the limits of a store.
use Rattle.std.proofs.Common.{◌≡◌, ℕ, ◌<◌, ◌≤◌, false, List, [], ◌∷◌, length, refl, sym, subst}
use Rattle.std.proofs.Common.{arith, length-append}
use Rattle.std.specs.Prelude.{Option, None, Some, true, is_some, not, unwrap_or}
use Rattle.ov_base.specs.declared.limits.TheConstants.{MAX_USERS, MAX_FILES, MAX_LAYER_NODES}
use Rattle.ov_base.specs.Sets.{single}
use Rattle.ov_base.proofs.Tests.{gt_of_false}
use Rattle.ov_history.specs.History.{Enrolled, Granted, Removed, Revoked}
use Rattle.ov_history.specs.Asking.{Numbers, key_refusal, newcomer, of_both, of_file, of_grant}
use Rattle.ov_history.specs.Asking.{of_user, refusal_at}
use Rattle.ov_history.specs.Catalogue.{Catalogue, Filed, Nodes, filed_at, matrix_shown}
use Rattle.ov_history.specs.Catalogue.{no_filed, outline}
use Rattle.ov_base.specs.declared.refusal.Refusal.TheVariants.{NoUser}
use Rattle.ov_history.specs.Lists.{is_file, is_user}
use Rattle.ov_history.specs.Layers.{Layers, grown, layers_after, lists_after, lists_of, node_of, root_of, wants_of}
use Rattle.ov_history.specs.Places.{living_at}
use Rattle.ov_history.specs.Refusals.{tests_of}
use Rattle.ov_history.specs.Sound.{IsLayer, IsPlaced}
use Rattle.ov_history.specs.Briefs.{BriefEnrol}
use Rattle.ov_history.proofs.Outlining.{node-shown}
use Rattle.ov_history.proofs.PlanLaws.{node_for-there, with_wants-keeps}
use Rattle.ov_history.proofs.SoundTests.{accepted, file_is as is_shown, is_below, none_applies}
use Rattle.ov_history.proofs.Storing.{living_below}
use Rattle.ov_state.specs.Asking.{numbers_of}
use Rattle.ov_state.specs.Contents.{IsWell}
use Rattle.ov_state.specs.declared.asking.Asked.{Asked}
use Rattle.ov_wire.specs.AnswerForm.{HasAnswerForm}
use Rattle.ov_wire.specs.Entries.{IsNode}
use Rattle.ov_server.specs.Telling.{known_answer}

-- the numbers that a store can have
pub record AreNumbers (n : Numbers) : Type 0 where
  pub user : n.user < MAX_USERS
  pub base_root : IsNode n.base_root
  pub surface_root : IsNode n.surface_root
  pub file : n.file < MAX_FILES
  pub node : IsNode n.node

-- an answer that tells numbers of a store can be sent
pub known_form : (limit : ℕ) (c : Catalogue) (epoch : ℕ) (a : Asked) (n : Numbers) → IsWell limit c
    → epoch ≡ c.epoch → numbers_of a ≡ n → AreNumbers n → HasAnswerForm (known_answer epoch a)
known_form limit c epoch a n well now same are =
    let told : AreNumbers (numbers_of a) = subst AreNumbers (sym same) are in (
      omega (arith, now, well.epoch),
      told.user,
      told.base_root,
      told.surface_root,
      told.file,
      told.node,
    )

-- ---- users and files that are there

-- a user has a root in each layer
pub root_low : (users user : ℕ) (nodes : Nodes) → IsLayer users nodes → user < users
    → IsNode (root_of nodes.sets user)
root_low users user nodes layer there =
    omega (arith, (node_for-there nodes.sets (single user) (layer.rooted user there)).0, layer.few)

-- a file that is there is the one at its number
pub filed_there : (c : Catalogue) (file : ℕ) → is_some (living_at c.files file) ≡ true
    → living_at c.files file ≡ Some (filed_at c file)
filed_there c file there = found (living_at c.files file) there where
  found : (o : Option Filed) → is_some o ≡ true → o ≡ Some (unwrap_or o no_filed)
  found None is = absurd (cc)
  found (Some f) is = refl

-- the number of a file that is there is below that of the files
pub filed_below : (c : Catalogue) (file : ℕ) → is_some (living_at c.files file) ≡ true
    → file < length c.files
filed_below c file there =
    living_below c.files file (filed_at c file) (filed_there c file there)

-- a file that is there has a base node
pub node_low : (limit : ℕ) (c : Catalogue) (file : ℕ) → IsWell limit c
    → is_some (living_at c.files file) ≡ true → IsNode (node_of (outline c) file)
node_low limit c file well there =
    let placed : IsPlaced c (filed_at c file) =
    well.sound.files file (filed_at c file) (filed_there c file there) in
    omega (arith, placed.base, well.sound.base.few, node-shown c file)

pub user_numbers : (limit : ℕ) (c : Catalogue) (user : ℕ) → IsWell limit c → user < length c.users
    → AreNumbers (of_user c user)
user_numbers limit c user well there = record {
  user = omega (arith, there, well.users);
  base_root = root_low (length c.users) user c.base well.sound.base there;
  surface_root = root_low (length c.users) user c.surface well.sound.surface there;
  file = omega (arith);
  node = omega (arith);
}

pub both_numbers : (limit : ℕ) (c : Catalogue) (user file : ℕ) → IsWell limit c
    → user < length c.users → is_some (living_at c.files file) ≡ true
    → AreNumbers (of_both c user file)
both_numbers limit c user file well there kept =
    let roots = user_numbers limit c user well there in record {
      user = roots.user;
      base_root = roots.base_root;
      surface_root = roots.surface_root;
      file = omega (arith, filed_below c file kept, well.files);
      node = node_low limit c file well kept;
    }

-- ---- what isn't refused

-- a test that doesn't apply says that the file is there
pub file_is : (c : Catalogue) (file : ℕ) → not (is_file (matrix_shown c) file) ≡ false
    → is_some (living_at c.files file) ≡ true
file_is c file passes = is_shown file c passes

pub key_numbers : (limit : ℕ) (c : Catalogue) (user : ℕ) → IsWell limit c
    → key_refusal c user ≡ None → AreNumbers (of_user c user)
key_numbers limit c user well none =
    user_numbers limit c user well
    (is_below user (length c.users)
    (none_applies ((NoUser, not (is_user (matrix_shown c) user)) ∷ []) none).0)

pub grant_numbers : (limit : ℕ) (c : Catalogue) (user file : ℕ) → IsWell limit c
    → refusal_at c (Granted user file) ≡ None → AreNumbers (of_grant c user file)
grant_numbers limit c user file well none =
    let tests = none_applies (tests_of (matrix_shown c) (outline c) c.epoch (Granted user file)) none
    in
    let both =
    both_numbers limit c user file well (is_below user (length c.users) tests.0)
    (file_is c file tests.1.0) in record {
      user = both.user;
      base_root = both.base_root;
      surface_root = both.surface_root;
      file = both.file;
      node = both.node;
    }

pub revoke_numbers : (limit : ℕ) (c : Catalogue) (user file : ℕ) → IsWell limit c
    → refusal_at c (Revoked user file) ≡ None → AreNumbers (of_both c user file)
revoke_numbers limit c user file well none =
    let tests = none_applies (tests_of (matrix_shown c) (outline c) c.epoch (Revoked user file)) none
    in
    both_numbers limit c user file well (is_below user (length c.users) tests.0)
    (file_is c file tests.1.0)

pub remove_numbers : (limit : ℕ) (c : Catalogue) (file : ℕ) → IsWell limit c
    → refusal_at c (Removed file) ≡ None → AreNumbers (of_file c file)
remove_numbers limit c file well none =
    let tests = none_applies (tests_of (matrix_shown c) (outline c) c.epoch (Removed file)) none in
    let kept : is_some (living_at c.files file) ≡ true = file_is c file tests.0 in record {
      user = omega (arith);
      base_root = omega (arith);
      surface_root = omega (arith);
      file = omega (arith, filed_below c file kept, well.files);
      node = node_low limit c file well kept;
    }

-- a layer that has few nodes once a user is enrolled had fewer before
surface_grows : (y : Layers) (name : List ℕ)
    → length (layers_after y (Enrolled name)).surface ≤ MAX_LAYER_NODES
    → length y.surface < MAX_LAYER_NODES
surface_grows y name few =
    let more : Layers = grown y (Enrolled name) in
    let kept =
    with_wants-keeps (wants_of more (lists_after (lists_of y) (Enrolled name))) more.surface
    (length y.surface)
    (omega (arith, length-append y.surface (single y.users ∷ []))) in
    omega (arith, kept.0, few)

pub enrol_numbers : (limit : ℕ) (c : Catalogue) (name : List ℕ) → IsWell limit c
    → refusal_at c (Enrolled name) ≡ None → AreNumbers (newcomer c)
enrol_numbers limit c name well none =
    let tests = none_applies (tests_of (matrix_shown c) (outline c) c.epoch (Enrolled name)) none in
    let few = (accepted c (BriefEnrol name) none).1 in record {
      user = gt_of_false MAX_USERS (length c.users) tests.1.0;
      base_root = omega (arith, few.base, length-append c.base.sets (single (length c.users) ∷ []));
      surface_root = surface_grows (outline c) name few.surface;
      file = omega (arith);
      node = omega (arith);
    }
