-- The calls of an owner, over a peer.
use Rattle.std.specs.Prelude.{ℕ, List, Option, Result}
use Rattle.ov_peer.specs.Asks.{AreAsks, Ask, Leads}
use Rattle.ov_peer.specs.Tells.{PeerTells}
use Rattle.ov_owner.specs.Errands.{Errand}
use Rattle.ov_owner.specs.Talks.{Goes, Stage, TalksFrom, start}
use Rattle.ov_owner.specs.declared.fault.OwnerFault.{OwnerFault}

-- asks lead from the one peer to the other, and from the one stage to the other
pub record Passes {P : Type 0} (peer : PeerTells P) (surface : List ℕ) (e : Errand)
    (from : Stage) (p : P) (to : Stage) (q : P) : Type 0 where
  pub asks : List Ask
  pub leads : Leads peer p asks q
  pub goes : Goes surface e from asks to

-- from this stage on the peer was asked until the call ended with this result
pub record Concludes {P : Type 0} (peer : PeerTells P) (surface : List ℕ) (e : Errand)
    (from : Stage) (p q : P) (result : Result ℕ OwnerFault) : Type 0 where
  pub asks : List Ask
  pub unanswered : Option (List ℕ)
  pub are_asks : AreAsks peer p asks unanswered q
  pub talks : TalksFrom surface e from asks unanswered result

-- the peer was asked what the errand asks, from its start on, until it ended with this result
abbrev pub Runs : {P : Type 0} → PeerTells P → List ℕ → Errand → P → P
    → Result ℕ OwnerFault → Type 0
Runs peer surface e p q result = Concludes peer surface e start p q result
