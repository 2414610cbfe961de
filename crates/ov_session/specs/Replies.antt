-- What a peer behind a stream tells.
use Rattle.std.specs.Prelude.{◌≡◌, ◌≤◌, ◌⊎◌, ℕ, List, length, take, Option, None, Some, Result, Ok, Err}
use Rattle.std.specs.Io.KnownBytes.{Appends, Consumes, IsAtEnd}
use Rattle.ov_peer.specs.declared.fault.PeerFault.{PeerFault}
use Rattle.ov_peer.specs.declared.fault.PeerFault.TheVariants as faults
use Rattle.ov_wire.specs.Frames.{IsBadLength, IsUnfinished, framed}
use Rattle.ov_session.specs.Links.{Link, LinkRose}

-- the request was written as a frame, and the frame that came next is the reply
pub record Exchanges (old new : Link) (request reply : List ℕ) : Type 0 where
  pub written : Appends old.written new.written (framed request)
  pub read : Consumes old.left new.left (framed reply)

-- a front of the request's frame was written, and some bytes were read
pub record Breaks (old new : Link) (request : List ℕ) : Type 0 where
  pub front : ℕ
  pub written : Appends old.written new.written (take front (framed request))
  pub taken : List ℕ
  pub read : Consumes old.left new.left taken

-- the input ended, and no whole reply had come
pub record EndsEarly (old new : Link) : Type 0 where
  pub taken : List ℕ
  pub read : Consumes old.left new.left taken
  pub unfinished : IsUnfinished taken
  pub at_end : IsAtEnd new.left

-- a length field came that no frame has
pub record HasBadLength (old new : Link) : Type 0 where
  pub field : List ℕ
  pub read : Consumes old.left new.left field
  pub bad : IsBadLength field

-- why a peer behind a stream fails
abbrev pub LinkFails : Link → Link → Type 0
LinkFails old new = LinkRose old new ⊎ EndsEarly old new ⊎ HasBadLength old new

-- the peer's count stayed, or it failed for one of these, or a fault of the link had lost it before
abbrev pub CountsFault : Option PeerFault → ℕ → ℕ → Link → Link → Type 0
CountsFault lost before now old new =
    (now ≡ before) ⊎ LinkFails old new ⊎ (lost ≡ Some faults.Link)

-- The buffer of a reply that didn't come has no more bytes than were read.
pub record HoldsWhatCame (old new : Link) (reply : List ℕ) : Type 0 where
  pub taken : List ℕ
  pub read : Consumes old.left new.left taken
  pub few : length reply ≤ length taken

-- a peer that was lost answers with the same fault, and leaves its stream as it is
abbrev pub StaysLost : {L : Type 0} → Option PeerFault → L → L → Result (Unit {0}) PeerFault
    → Type 0
StaysLost None old new result = Unit {0}
StaysLost (Some fault) old new result = (result ≡ Err fault) × (new ≡ old)

-- by which fault a peer is lost that answers so
abbrev pub lost_by : Result (Unit {0}) PeerFault → Option PeerFault
lost_by (Ok done) = None
lost_by (Err fault) = Some fault

-- a peer is lost by the first fault that it answers with, and from then on touches its stream no
-- more
pub record Loses {L : Type 0} (was now : Option PeerFault) (old new : L)
    (result : Result (Unit {0}) PeerFault) : Type 0 where
  pub stays : StaysLost was old new result
  pub now_lost : now ≡ lost_by result
