-- A grant that is planned.
use Rattle.std.proofs.Common.{◌≡◌, ℕ, ◌<◌, Bool, true, false, List, length, refl, sym, ◌∙◌, ap, subst, true≢false}
use Rattle.std.specs.Prelude.{not, Option, Some, None, is_some}
use Rattle.std.proofs.lemmas.Bool.{false≢true}
use mathlib.Core.Bool.{beq}
use Rattle.ov_base.specs.Sets.{has}
use Rattle.ov_tokens.specs.declared.token.Token.{Token}
use Rattle.ov_record.specs.Briefs.{BriefGrant as SpelledGrant}
use Rattle.ov_history.specs.Asking.{refusal_at}
use Rattle.ov_history.specs.Briefs.{Brief, BriefGrant}
use Rattle.ov_history.specs.History.{Granted}
use Rattle.ov_history.specs.Lists.{byte_sum}
use Rattle.ov_history.specs.Layers.{Layers, node_of, holders, lists_of, lists_after, wants_of}
use Rattle.ov_history.specs.Catalogue.{Catalogue, filed_at, outline, matrix_shown, granted}
use Rattle.ov_history.specs.Sealed.{HasParts}
use Rattle.ov_history.proofs.Outlining.{node-shown, outline-grown}
use Rattle.ov_state.specs.declared.fault.PrepareFault.TheVariants.{BadPlan}
use Rattle.ov_state.specs.declared.relisting.Relisting.{Relisting}
use Rattle.ov_state.specs.declared.rewrites.Rewrites.{Rewrites}
use Rattle.ov_state.specs.Contents.{IsWell}
use Rattle.ov_state.specs.Changes.{Fits}
use Rattle.ov_state.specs.Plans.{IsChange, IsFaultOf}
use Rattle.ov_state.specs.Relistings.{access_of, change_with, wants_after, AreSettled, IsDecided}
use Rattle.ov_state.proofs.FilesByNumber.{filed-there}
use Rattle.ov_state.proofs.ListChanges.{at_next, list-change}

-- tests that were compared
pub same-test : (a b : Bool) → beq a b ≡ true → a ≡ b
same-test true true e = refl
same-test true false e = absurd (false≢true e)
same-test false true e = absurd (false≢true e)
same-test false false e = refl

pub other-test : (a b : Bool) → beq a b ≡ false → a ≡ b → ⊥
other-test true true e same = true≢false e
other-test true false e same = true≢false same
other-test false true e same = false≢true same
other-test false false e same = true≢false e

-- two tests that differ
opposite : (a b : Bool) → (a ≡ b → ⊥) → a ≡ not b
opposite true true apart = absurd (apart refl)
opposite true false apart = refl
opposite false true apart = refl
opposite false false apart = absurd (apart refl)

not_opposite : (a b : Bool) → a ≡ b → a ≡ not b → ⊥
not_opposite true true same other = true≢false other
not_opposite true false same other = true≢false same
not_opposite false true same other = false≢true same
not_opposite false false same other = false≢true other

-- whether the user of a grant holds the file's base node
pub held_is : {W : ℕ} (s : Catalogue) (user file : ℕ) (r : Relisting W) → IsDecided s (Granted user file) user file r
    → has (holders (outline s) (node_of (outline s) file)) user ≡ has r.before user
held_is s user file r decided =
    ap (λ n. has (holders (outline s) n) user) (sym (node-shown s file) ∙ sym decided.node)
    ∙ ap (λ held. has held user) (sym decided.relisting.before)

module _ {W : ℕ} (limit : ℕ) (s : Catalogue) (user file : ℕ) (token : Option Token) (well : IsWell limit s)
    (r : Relisting W) (decided : IsDecided s (Granted user file) user file r) (accepted : refusal_at s (Granted user file) ≡ None) where
  abbrev update : Brief
  update = BriefGrant user file token

  -- the access token is there although it isn't wanted, or the other way round
  pub grant-parts : is_some token ≡ has r.before user → IsFaultOf W s (SpelledGrant user file token) (BadPlan 9)
  grant-parts same = (accepted, not_opposite (is_some token) _ (same ∙ sym (held_is s user file r decided)), refl)

  fits : (t : Option Token) → is_some t ≡ not (has (holders (outline s) r.node) user) → user < limit
      → Fits limit s.users s.files s.base.sets s.grants (access_of user r.node t)
  fits None new below = tt
  fits (Some t) new below = (
    subst (λ n. n < length s.base.sets) (sym decided.node)
        (well.sound.files file (filed_at s file) (filed-there s file decided.there)).base,
    below,
    λ held. true≢false (new ∙ ap not held),
  )

  -- the grant is planned
  pub grant-change : (master : List ℕ) (plan : Rewrites W) → AreSettled master s (wants_after (outline s) r 0 (outline s).files) plan
      → user < limit → (is_some token ≡ has r.before user → ⊥)
      → IsChange limit master s update (change_with (byte_sum (matrix_shown s).files) (access_of user r.node token) plan)
  grant-change master plan h below apart =
      let has_parts : HasParts (outline s) update = opposite (is_some token) _ (λ e. apart (e ∙ held_is s user file r decided)) in
      let own : is_some token ≡ not (has (holders (outline s) r.node) user) =
      has_parts ∙ ap (λ n. not (has (holders (outline s) n) user)) (sym (node-shown s file) ∙ sym decided.node) in
      list-change master s user r.node plan limit update token
      (ap (λ n. at_next s (granted s.grants user n token)) (sym decided.node))
      accepted has_parts tt well (fits token own below)
      (subst (λ (y : Layers). AreSettled master s (wants_of y (lists_after (lists_of (outline s)) (Granted user file))) plan)
      (sym (outline-grown s update has_parts))
      (subst (λ (ws : List (Option ℕ)). AreSettled master s ws plan) decided.wants h))
