-- What a traced peer tells of an ask.
use Rattle.std.specs.Prelude.{◌≡◌, ℕ, List, ◌++◌, take, Option}
use Rattle.std.specs.Io.KnownBytes.{Appends}
use Rattle.ov_wire.specs.Frames.{framed}
use Rattle.ov_peer.specs.Tells.{PeerTells}

-- the peer was asked, and both frames were put behind their length fields
pub record TracesAsk {P : Type 0} (tells : PeerTells P) (old new : P) (was now : Option (List ℕ))
    (request reply : List ℕ) : Type 0 where
  pub peer : tells.asked old request reply new
  pub put : Appends was now (framed request ++ framed reply)

-- an ask failed: the request wasn't put whole and the peer wasn't asked, or it failed, or it was
-- answered and the reply wasn't put whole
pub data TracesFault {P : Type 0} (tells : PeerTells P) (old new : P) (was now : Option (List ℕ))
    (request : List ℕ) : Type 0 where
  unasked : new ≡ old → (n : ℕ) → Appends was now (take n (framed request))
      → TracesFault tells old new was now request
  unanswered : tells.failed old request new → Appends was now (framed request)
      → TracesFault tells old new was now request
  unput : (reply : List ℕ) (n : ℕ) → tells.asked old request reply new
      → Appends was now (framed request ++ take n (framed reply))
      → TracesFault tells old new was now request
