-- How an act ends.
use Rattle.std.specs.Prelude.{ℕ, List, Option}
use Rattle.ov_protocol.specs.Serving.{Service}
use Rattle.ov_peer.specs.Tells.{PeerTells}
use Rattle.ov_acts.specs.Acts.{Acts}
use Rattle.ov_acts.specs.Machine.{ActsAsMachine}
use Rattle.ov_acts.specs.Printing.{PutsOutcome}
use Rattle.ov_acts.specs.Stops.{Outcome}
use Rattle.ov_acts.specs.declared.job.Act.{Act}

-- The peer was asked what the act asks, and this came of it: so much was put, and the status says
-- which. Where the peer tells the history that it serves, it is the access-matrix machine's.
pub record Ends {P : Type 0} (peer : PeerTells P) (act : Act) (keys body : Option (List ℕ))
    (p q : P) (old new : Option (List ℕ)) (status : ℕ) : Type 0 where
  pub outcome : Outcome
  pub acts : Acts peer act keys body p q outcome
  pub told : (v : Service) → peer.serves p v → ActsAsMachine act keys body v (peer.serves q) outcome
  pub puts : PutsOutcome outcome old new status
