-- The calls of an owner, over a peer that tells which history it serves.
use Rattle.std.proofs.Common.{◌≡◌, ℕ, List, Option, Some, None, Result, Ok, Err, refl, subst, inl, inr}
use Rattle.ov_script.specs.declared.command.Command.{Command}
use Rattle.ov_history.specs.Masters.{Masters}
use Rattle.ov_protocol.specs.Serving.{Service}
use Rattle.ov_peer.specs.Asks.{EndsAt}
use Rattle.ov_peer.specs.Tells.{PeerTells}
use Rattle.ov_peer.proofs.Telling.{asks_along}
use Rattle.ov_owner.specs.Calls.{Runs}
use Rattle.ov_owner.specs.Errands.{Errand}
use Rattle.ov_owner.specs.Steps.{IsErrandFor, IsOwnersReply}
use Rattle.ov_owner.specs.Talks.{Closes, IsAskFault, Stage}
use Rattle.ov_owner.specs.Changes.{command_of, errand_of}
use Rattle.ov_owner.specs.declared.fault.OwnerFault.{OwnerFault}
use Rattle.ov_owner.specs.declared.fault.OwnerFault.TheVariants as faults
use Rattle.ov_owner.specs.declared.change.Change.{Change}
use Rattle.ov_owner.specs.declared.change.Change.TheVariants as changes
use Rattle.ov_owner.proofs.Replying.{talks_are_steps}

-- a change's errand is that of its command
pub errand_for : (base : List ℕ) (change : Change) → IsErrandFor base (command_of change) (errand_of base change)
errand_for base (changes.Enrol user) = refl
errand_for base (changes.Create file list bytes) = refl
errand_for base (changes.Grant user file) = refl
errand_for base (changes.Revoke user file) = refl
errand_for base (changes.Remove file) = refl
errand_for base (changes.Replace file bytes) = refl

module _ {P : Type 0} (peer : PeerTells P) (k : Masters) (command : Command) (e : Errand)
    (is : IsErrandFor k.base command e) (p q : P) (v : Service) (is_served : peer.serves p v)
    (same : v.surface ≡ k.surface) where
  -- where the call has an answer, its last ask was answered
  answered_last : (m : P) (stage : Stage) (o : Option (List ℕ)) (result : Result ℕ OwnerFault)
      → Closes k.surface e stage o result → (IsAskFault result → ⊥) → EndsAt peer m o q → m ≡ q
  answered_last m stage None result closes other ends = ends
  answered_last m stage (Some frame) result (due, why) other ends = absurd (other why)

  pub owners_reply : (result : Result ℕ OwnerFault) → Runs peer k.surface e p q result
      → IsOwnersReply k command v (peer.serves q) result
  owners_reply (Ok epoch) runs =
      let (m, leads, ends) = runs.are_asks in
      let (final, goes, closes) = runs.talks in
      let (histories, last, at_each, then) = asks_along peer p m runs.asks v leads is_served in
      let at_end = answered_last m final runs.unanswered (Ok epoch) closes never ends in (
        runs.asks,
        histories,
        last,
        at_each,
        subst (λ r. peer.serves r last) at_end then,
        λ right. talks_are_steps k command e runs.asks runs.unanswered (Ok epoch) v last histories is runs.talks same at_each right,
      ) where
        never : IsAskFault (Ok epoch) → ⊥
        never (inl wrong) = cc wrong
        never (inr wrong) = cc wrong
  owners_reply (Err (faults.Refused why)) runs =
      let (m, leads, ends) = runs.are_asks in
      let (final, goes, closes) = runs.talks in
      let (histories, last, at_each, then) = asks_along peer p m runs.asks v leads is_served in
      let at_end = answered_last m final runs.unanswered (Err (faults.Refused why)) closes never ends in (
        runs.asks,
        histories,
        last,
        at_each,
        subst (λ r. peer.serves r last) at_end then,
        λ right. talks_are_steps k command e runs.asks runs.unanswered (Err (faults.Refused why)) v last histories is runs.talks same at_each right,
      ) where
        never : IsAskFault (Err (faults.Refused why)) → ⊥
        never (inl wrong) = cc wrong
        never (inr wrong) = cc wrong
  owners_reply (Err fault) runs = tt

pub change_reply : {P : Type 0} (peer : PeerTells P) (k : Masters) (change : Change) (p q : P)
    (v : Service) → peer.serves p v
    → v.surface ≡ k.surface → (result : Result ℕ OwnerFault)
    → Runs peer k.surface (errand_of k.base change) p q result
    → IsOwnersReply k (command_of change) v (peer.serves q) result
change_reply peer k change p q v is_served same result runs =
    owners_reply peer k (command_of change) (errand_of k.base change) (errand_for k.base change)
    p q v is_served same result runs
