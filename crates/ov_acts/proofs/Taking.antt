-- What an act takes of its files.
use Rattle.std.proofs.Common.{◌≡◌, ◌⊎◌, ℕ, List, Option, Some, None, Ok, inl, inr, length, refl, subst, sym}
use Rattle.std.specs.Prelude.{◌<◌, IfSome, ⊤}
use Rattle.ov_io.specs.Calls.{TakesWhile}
use Rattle.ov_io.specs.Tells.{SourceTells}
use Rattle.ov_io.proofs.Pieces.{while_as}
use Rattle.ov_keyfile.specs.declared.masters.Masters.{Masters as ReadMasters}
use Rattle.ov_acts.specs.Causes.{HasKeys, StoresFile, TakesFiles, TakesUpTo, most_bytes, most_keys}
use Rattle.ov_acts.specs.Files.{FindsMasters, IsOwners}
use Rattle.ov_acts.specs.declared.job.Act.{Act}
use Rattle.ov_acts.specs.declared.job.Act.TheVariants as acts

-- whether the call failed or not
pub takes_so : {S : Type 0} (tells : SourceTells S) (size most : ℕ)
    (failed : Type 0) (old new : S) → size ≡ most
    → TakesWhile tells (λ seen. length seen < size) ⊤ failed old new
    → TakesUpTo tells most old new
takes_so {S} tells size most failed old new e t =
    while_as tells (λ seen. length seen < most) ⊤ ⊤ failed ⊥ old new (λ x. x) (λ x. absurd x)
    (subst (λ (n : ℕ). TakesWhile tells (λ seen. length seen < n) ⊤ failed old new) e t)

-- an act that stores a file takes from it, or doesn't
pub stored_takes : (same takes : Type 0) (act : Act)
    → StoresFile act → same ⊎ takes → same ⊎ (StoresFile act × takes)
stored_takes same takes act stores (inl e) = inl e
stored_takes same takes act stores (inr t) = inr (stores, t)

-- masters were found in a key file
keys_hold : (act : Act) (keys : Option (List ℕ)) (masters : ReadMasters) → IsOwners act
    → FindsMasters keys (Ok masters) → IfSome keys (HasKeys act)
keys_hold act None masters owns found = tt
keys_hold (acts.Enrol user) (Some file) masters owns found =
    (masters.base.bytes, masters.surface.bytes, found)
keys_hold (acts.Grant user name) (Some file) masters owns found =
    (masters.base.bytes, masters.surface.bytes, found)
keys_hold (acts.Revoke user name) (Some file) masters owns found =
    (masters.base.bytes, masters.surface.bytes, found)
keys_hold (acts.Remove name) (Some file) masters owns found =
    (masters.base.bytes, masters.surface.bytes, found)
keys_hold (acts.Create name list) (Some file) masters owns found =
    (masters.base.bytes, masters.surface.bytes, found)
keys_hold (acts.Replace name) (Some file) masters owns found =
    (masters.base.bytes, masters.surface.bytes, found)
keys_hold (acts.List name) (Some file) masters owns found =
    (masters.base.bytes, masters.surface.bytes, found)
keys_hold (acts.Key user) (Some file) masters owns found =
    (masters.base.bytes, masters.surface.bytes, found)
keys_hold (acts.Read name) (Some file) masters owns found = absurd owns
keys_hold acts.Check (Some file) masters owns found = absurd owns

module _ {K B : Type 0} (keys_tells : SourceTells K) (body_tells : SourceTells B) where
  -- an owner's act whose body wasn't touched
  pub keys_alone : (act : Act) (k k_after : K) (b b_after : B) → IsOwners act
      → TakesUpTo keys_tells 131 k k_after → b_after ≡ b
      → TakesFiles keys_tells body_tells act k k_after b b_after
  keys_alone (acts.Enrol user) k k_after b b_after owns takes same =
      record { keys = takes; body = inl same }
  keys_alone (acts.Grant user name) k k_after b b_after owns takes same =
      record { keys = takes; body = inl same }
  keys_alone (acts.Revoke user name) k k_after b b_after owns takes same =
      record { keys = takes; body = inl same }
  keys_alone (acts.Remove name) k k_after b b_after owns takes same =
      record { keys = takes; body = inl same }
  keys_alone (acts.Create name list) k k_after b b_after owns takes same =
      record { keys = takes; body = inl same }
  keys_alone (acts.Replace name) k k_after b b_after owns takes same =
      record { keys = takes; body = inl same }
  keys_alone (acts.List name) k k_after b b_after owns takes same =
      record { keys = takes; body = inl same }
  keys_alone (acts.Key user) k k_after b b_after owns takes same =
      record { keys = takes; body = inl same }
  keys_alone (acts.Read name) k k_after b b_after owns takes same = absurd owns
  keys_alone acts.Check k k_after b b_after owns takes same = absurd owns

  -- an act that has no body
  pub keys_only : (act : Act) (most : ℕ) (k k_after : K) (b : B) → most_keys act ≡ most
      → TakesUpTo keys_tells most k k_after
      → TakesFiles keys_tells body_tells act k k_after b b
  keys_only act most k k_after b e takes = record {
    keys = subst (λ (n : ℕ). TakesUpTo keys_tells n k k_after) (sym e) takes;
    body = inl refl;
  }

  -- an act whose masters were found
  pub both_files : (act : Act) (k k_after : K) (b b_after : B) (masters : ReadMasters)
      → IsOwners act → FindsMasters (keys_tells.left k) (Ok masters)
      → TakesUpTo keys_tells 131 k k_after
      → (b_after ≡ b) ⊎ (StoresFile act × TakesUpTo body_tells most_bytes b b_after)
      → TakesFiles keys_tells body_tells act k k_after b b_after
  both_files act k k_after b b_after masters owns found takes (inl same) =
      keys_alone act k k_after b b_after owns takes same
  both_files act k k_after b b_after masters owns found takes (inr (stores, more)) =
      let first = keys_alone act k k_after b b owns takes refl in
      record { keys = first.keys; body = inr (stores, keys_hold act (keys_tells.left k) masters owns found, more) }
