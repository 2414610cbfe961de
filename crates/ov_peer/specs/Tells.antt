-- What the outside tells: a peer, and what answers frames.
use Rattle.std.specs.Prelude.{◌≡◌, ◌⊎◌, ℕ, true, false, List, Result, Ok, Err}
use Rattle.std.specs.Borrow.{MutBor}
use Rattle.ov_base.specs.declared.memory.Memory.{Memory}
use Rattle.ov_record.specs.Updates.{SealedUpdate}
use Rattle.ov_protocol.specs.Serving.{Service, later, served}
use Rattle.ov_protocol.specs.Replies.{MayMake, Replies}
use Rattle.ov_peer.specs.Disks.{IsDiskFault}
use Rattle.ov_peer.specs.Spellings.{fails_update, says_accepted}

-- ---- what a peer that serves a history promises

-- the reply is the one at this history, with the updates that are made by it, or the server's disk
-- failed where it is needed
abbrev pub IsReplyAt : Service → List ℕ → List ℕ → List SealedUpdate → Type 0
IsReplyAt v request reply made =
    Replies (served v) request reply made ⊎ IsDiskFault (served v) request reply made

-- Asked this, a peer that serves that history replies so: the reply is the one at a history that
-- goes on from it by what others did, and what is served then goes on by what this request made.
abbrev pub Told : Service → List ℕ → List ℕ → (Service → Type 0) → Type 0
Told v request reply Then =
    (others : List SealedUpdate) × (made : List SealedUpdate)
    × IsReplyAt (later v others) request reply made × Then (later (later v others) made)

-- After an ask that failed what is served goes on by what others did, and perhaps by what this
-- request would have made.
abbrev pub LeavesTold : Service → List ℕ → (Service → Type 0) → Type 0
LeavesTold v request Then =
    (others : List SealedUpdate) × (made : List SealedUpdate)
    × MayMake request made × Then (later (later v others) made)

-- ---- a peer

pub record PeerTells (P : Type 0) : Type 1 where
  -- an ask that was answered: the peer before it, request and reply, and the peer after it
  pub asked : P → List ℕ → List ℕ → P → Type 0
  -- an ask that failed: the peer before it, the request, and the peer after it
  pub failed : P → List ℕ → P → Type 0
  -- the peer serves this sealed history under these keys, and its replies have the stored bytes
  -- after it; a peer that tells none serves none
  pub serves : P → Service → Type 0
  -- how often the peer has failed; the count stays at 18,446,744,073,709,551,615
  pub faults : P → ℕ
  -- which loan this is, for a peer that is itself behind a `&mut`, and 0 for any other; each call
  -- keeps it
  pub borrow : P → ℕ
  -- what a peer serves is what it answers by, whatever others do meanwhile
  pub told : (p q : P) (request reply : List ℕ) (v : Service)
      → asked p request reply q → serves p v → Told v request reply (serves q)
  -- after an ask that failed a peer serves what others made of its history, and perhaps what the
  -- request would have made
  pub left : (p q : P) (request : List ℕ) (v : Service)
      → failed p request q → serves p v → LeavesTold v request (serves q)

-- a peer behind a `&mut`
abbrev pub lent_peer : {P : Type 0} → PeerTells P → PeerTells (MutBor P)
lent_peer peer = record {
  asked = λ p request reply q. peer.asked p.now request reply q.now;
  failed = λ p request q. peer.failed p.now request q.now;
  serves = λ p. peer.serves p.now;
  faults = λ p. peer.faults p.now;
  borrow = λ p. p.ghost_name;
  told = λ p q. peer.told p.now q.now;
  left = λ p q. peer.left p.now q.now;
}

-- ---- what answers frames

pub record AnswererTells (A : Type 0) : Type 1 where
  -- from the first value the accepted updates with these spellings lead to the second, as far as
  -- it matters to answers
  pub reached : A → List (List ℕ) → A → Type 0
  -- after this start and these accepted updates a request gets this reply
  pub replies : A → List (List ℕ) → List ℕ → List ℕ → Type 0
  -- the epoch of a value
  pub epoch_of : A → ℕ
  -- the value accepts no update any more, as after one in which its disk failed
  pub stuck : A → Type 0

-- An Update that is answered by this, that the disk failed in one, leaves the value stuck. A value
-- that is stuck stays so, and accepts nothing.
pub record Sticks {A : Type 0} (tells : AnswererTells A) (old new : A) (request reply : List ℕ)
    : Type 0 where
  pub stays : tells.stuck old → tells.stuck new
  pub refuses : tells.stuck old → says_accepted reply ≡ false
  pub fails : fails_update request reply ≡ true → tells.stuck new

-- A stuck value stays so and accepts nothing, and a failed update leaves it stuck. Where memory is
-- refused there is no reply.
abbrev pub StaysStuck : {A T : Type 0} → AnswererTells A → A → A → List ℕ → List ℕ
    → Result T Memory → Type 0
StaysStuck tells old new request reply (Ok done) = Sticks tells old new request reply
StaysStuck tells old new request reply (Err memory) = tells.stuck old → tells.stuck new
