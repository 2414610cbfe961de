-- Acts of owners among all acts.
use Rattle.std.proofs.Common.{ℕ, List, Option}
use Rattle.ov_protocol.specs.Serving.{Service}
use Rattle.ov_acts.specs.Files.{IsOwners}
use Rattle.ov_acts.specs.Machine.{ActsAsMachine, OwnersAsMachine}
use Rattle.ov_acts.specs.Stops.{Outcome}
use Rattle.ov_acts.specs.declared.job.Act.{Act}
use Rattle.ov_acts.specs.declared.job.Act.TheVariants as acts

-- what is told of an owner's act is what is told of the act
pub told_by_owner : (act : Act) (keys body : Option (List ℕ)) (v : Service)
    (Then : Service → Type 0) (outcome : Outcome) → IsOwners act
    → OwnersAsMachine act keys body v Then outcome → ActsAsMachine act keys body v Then outcome
told_by_owner (acts.Enrol user) keys body v Then outcome owns told = told
told_by_owner (acts.Grant user file) keys body v Then outcome owns told = told
told_by_owner (acts.Revoke user file) keys body v Then outcome owns told = told
told_by_owner (acts.Remove file) keys body v Then outcome owns told = told
told_by_owner (acts.Create file list) keys body v Then outcome owns told = told
told_by_owner (acts.Replace file) keys body v Then outcome owns told = told
told_by_owner (acts.List file) keys body v Then outcome owns told = told
told_by_owner (acts.Key user) keys body v Then outcome owns told = told
told_by_owner (acts.Read file) keys body v Then outcome owns told = absurd owns
told_by_owner acts.Check keys body v Then outcome owns told = absurd owns
