-- The change that an act asks for, made by its owner.
use Rattle.std.proofs.Common.{◌≡◌, ℕ, List, Result, Ok, Err, refl, subst, sym, inl, inr}
use Rattle.ov_history.specs.Masters.{Masters}
use Rattle.ov_owner.specs.Calls.{Runs}
use Rattle.ov_owner.specs.Changes.{command_of, errand_of}
use Rattle.ov_owner.specs.Errands.{Errand, creating, enrolling, granting, removing, replacing, revoking}
use Rattle.ov_owner.specs.Steps.{IsErrandFor, IsOwnersReply}
use Rattle.ov_owner.specs.declared.change.Change.{Change}
use Rattle.ov_owner.specs.declared.fault.OwnerFault.{OwnerFault}
use Rattle.ov_owner.specs.declared.fault.OwnerFault.TheVariants as faults
use Rattle.ov_owner.proofs.Owning.{errand_for}
use Rattle.ov_peer.specs.Tells.{PeerTells}
use Rattle.ov_protocol.specs.Serving.{Service}
use Rattle.ov_script.specs.declared.command.Command.{Command}
use Rattle.ov_script.specs.declared.command.Command.TheVariants as commands
use Rattle.ov_acts.specs.Acts.{AsksFor, Performs, Says, update_line}
use Rattle.ov_acts.specs.Machine.{CommandsAsMachine, UpdatesAsMachine}
use Rattle.ov_acts.specs.Stops.{Outcome}
use Rattle.ov_acts.specs.declared.job.Act.{Act}
use Rattle.ov_acts.specs.declared.job.Act.TheVariants as acts

-- The errand of a change that asks for this command is the command's.
errand_is : (base : List ℕ) (change : Change) (command : Command) → command_of change ≡ command
    → IsErrandFor base command (errand_of base change)
errand_is base change command is =
    subst (λ (c : Command). IsErrandFor base c (errand_of base change)) is (errand_for base change)

-- An owner's call for the change of an act performs the act.
module _ {P : Type 0} (peer : PeerTells P) (k : Masters) (bytes : List ℕ) (change : Change)
    (p q : P) (result : Result ℕ OwnerFault) (outcome : Outcome)
    (runs : Runs peer k.surface (errand_of k.base change) p q result)
    (says : Says update_line result outcome) where
  runs_as : (e : Errand) → errand_of k.base change ≡ e → Runs peer k.surface e p q result
  runs_as e is = subst (λ (x : Errand). Runs peer k.surface x p q result) is runs

  pub performed_by : (act : Act) → AsksFor act bytes (command_of change)
      → Performs peer k act bytes p q outcome
  performed_by (acts.Enrol user) is =
      (result, runs_as (enrolling user) (errand_is k.base change (commands.Enrol user) is), says)
  performed_by (acts.Grant user file) is =
      (result, runs_as (granting k.base user file) (errand_is k.base change (commands.Grant user file) is), says)
  performed_by (acts.Revoke user file) is =
      (result, runs_as (revoking user file) (errand_is k.base change (commands.Revoke user file) is), says)
  performed_by (acts.Remove file) is =
      (result, runs_as (removing file) (errand_is k.base change (commands.Remove file) is), says)
  performed_by (acts.Create file list) is =
      (result, runs_as (creating k.base file list bytes) (errand_is k.base change (commands.Create file list bytes) is), says)
  performed_by (acts.Replace file) is =
      (result, runs_as (replacing k.base file bytes) (errand_is k.base change (commands.Replace file bytes) is), says)
  performed_by act is = absurd is

-- What is told of an owner's call is told of the line on it.
module _ (k : Masters) (v : Service) (Then : Service → Type 0) (command : Command) where
  updated : (result : Result ℕ OwnerFault) (outcome : Outcome)
      → IsOwnersReply k command v Then result → Says update_line result outcome
      → UpdatesAsMachine k command v Then outcome
  updated (Ok epoch) outcome told (inl e) =
      subst (UpdatesAsMachine k command v Then) (sym e) (epoch, refl, told)
  updated (Ok epoch) outcome told (inr e) =
      subst (UpdatesAsMachine k command v Then) (sym e) tt
  updated (Err (faults.Refused why)) outcome told e =
      subst (UpdatesAsMachine k command v Then) (sym e) told
  updated (Err faults.Link) outcome told e =
      subst (UpdatesAsMachine k command v Then) (sym e) tt
  updated (Err (faults.BadReply place)) outcome told e =
      subst (UpdatesAsMachine k command v Then) (sym e) tt
  updated (Err faults.BadTag) outcome told e =
      subst (UpdatesAsMachine k command v Then) (sym e) tt
  updated (Err faults.Device) outcome told e =
      subst (UpdatesAsMachine k command v Then) (sym e) tt
  updated (Err (faults.Unsettled epochs)) outcome told e =
      subst (UpdatesAsMachine k command v Then) (sym e) tt
  updated (Err faults.Memory) outcome told e =
      subst (UpdatesAsMachine k command v Then) (sym e) tt

-- An act that asks for a change is told of as the machine's.
module _ (k : Masters) (bytes : List ℕ) (change : Change) (v : Service) (Then : Service → Type 0)
    (result : Result ℕ OwnerFault) (outcome : Outcome)
    (told : IsOwnersReply k (command_of change) v Then result)
    (says : Says update_line result outcome) where
  told_of : (command : Command) → command_of change ≡ command
      → UpdatesAsMachine k command v Then outcome
  told_of command is =
      subst (λ (c : Command). UpdatesAsMachine k c v Then outcome) is
      (updated k v Then (command_of change) result outcome told says)

  pub told_by : (act : Act) → AsksFor act bytes (command_of change)
      → CommandsAsMachine k act bytes v Then outcome
  told_by (acts.Enrol user) is = told_of (commands.Enrol user) is
  told_by (acts.Grant user file) is = told_of (commands.Grant user file) is
  told_by (acts.Revoke user file) is = told_of (commands.Revoke user file) is
  told_by (acts.Remove file) is = told_of (commands.Remove file) is
  told_by (acts.Create file list) is = told_of (commands.Create file list bytes) is
  told_by (acts.Replace file) is = told_of (commands.Replace file bytes) is
  told_by act is = absurd is
