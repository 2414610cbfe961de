-- Lists of asks, and what they say of a peer that tells which history it serves.
use Rattle.std.specs.Prelude.{◌≡◌, ℕ, List, [], ◌∷◌, Option, Some, None}
use Rattle.ov_record.specs.Updates.{SealedUpdate}
use Rattle.ov_history.specs.Plain.{PlainHistory, history_of}
use Rattle.ov_history.specs.Refusals.{IsLegal}
use Rattle.ov_history.specs.Masters.{Masters}
use Rattle.ov_history.specs.Sealed.{SealedHistory}
use Rattle.ov_history.specs.Sealing.{IsSealedAs}
use Rattle.ov_protocol.specs.Serving.{Service, followed, later}
use Rattle.ov_peer.specs.Tells.{IsReplyAt, PeerTells}

-- ---- asks of any peer

-- a request and its reply, as frames without their length fields
pub record Ask : Type 0 where
  pub request : List ℕ
  pub reply : List ℕ

-- what a peer tells of an ask that was answered: the peer before it, request and reply, and the
-- peer after it
abbrev pub Asked : Type 0 → Type 1
Asked P = P → List ℕ → List ℕ → P → Type 0

-- what a peer tells of an ask that failed: the peer before it, the request, and the peer after it
abbrev pub Failed : Type 0 → Type 1
Failed P = P → List ℕ → P → Type 0

-- the asks lead from one peer to another
abbrev pub Leads : {P : Type 0} → PeerTells P → P → List Ask → P → Type 0
Leads peer p [] q = p ≡ q
Leads {P} peer p (a ∷ asks) q = (m : P) × peer.asked p a.request a.reply m × Leads peer m asks q

-- a call ended after an ask that was answered, or at this request, which failed
abbrev pub EndsAt : {P : Type 0} → PeerTells P → P → Option (List ℕ) → P → Type 0
EndsAt peer p None q = p ≡ q
EndsAt peer p (Some request) q = peer.failed p request q

-- these are the asks of a call that found the one peer and left the other
abbrev pub AreAsks : {P : Type 0} → PeerTells P → P → List Ask → Option (List ℕ) → P → Type 0
AreAsks {P} peer p asks unanswered q =
    (m : P) × Leads peer p asks m × EndsAt peer m unanswered q

-- ---- asks of a peer that tells its history

-- each ask was answered at one of these histories, each of which goes on from the one before, and
-- the last service goes on from all of them
abbrev pub Along : Service → List Ask → List SealedHistory → Service → Type 0
Along v [] [] last = v ≡ last
Along v [] (at_one ∷ more) last = ⊥
Along v (a ∷ asks) [] last = ⊥
Along v (a ∷ asks) (at_one ∷ more) last =
    (others : List SealedUpdate) × (made : List SealedUpdate)
    × (at_one ≡ followed v.history others)
    × IsReplyAt (later v others) a.request a.reply made
    × Along (later (later v others) made) asks more last

-- a history is right under these masters: it is the sealed form of a legal one, but for the tags
-- and the bytes of files that are gone
abbrev pub IsRight : Masters → SealedHistory → Type 0
IsRight k g = (p : PlainHistory) × IsLegal (history_of p) × IsSealedAs k p g

-- each of these histories is right under these masters
abbrev pub AreRight : Masters → List SealedHistory → Type 0
AreRight k [] = Unit {0}
AreRight k (g ∷ more) = IsRight k g × AreRight k more
