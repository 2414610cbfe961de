-- Inner: no public contract needs this. How a reply is read.
use Rattle.std.specs.Prelude.{◌≡◌, ◌<◌, ◌≤◌, ◌⊎◌, ℕ, ◌+◌, ◌-◌, ◌^◌, List, [], ◌++◌, length, take, Result, Ok, Err, min}
use Rattle.std.specs.Io.KnownBytes.{Consumes, IsAtEnd}
use Rattle.ov_base.specs.Causes.{Rose}
use Rattle.ov_fields.specs.Spelling.{u32}
use Rattle.ov_peer.specs.declared.fault.PeerFault.{PeerFault}
use Rattle.ov_peer.specs.declared.fault.PeerFault.TheVariants as faults
use Rattle.ov_wire.specs.Frames.{IsBadLength, IsFrame, IsFrameLength, IsUnfinished, framed}
use Rattle.ov_session.specs.Links.{Link}
use Rattle.ov_session.specs.Replies.{Breaks, Exchanges, HoldsWhatCame, LinkFails}

-- these bytes were taken, and only the reading half of the stream was touched
pub record Reads (old new : Link) (bytes : List ℕ) : Type 0 where
  pub read : Consumes old.left new.left bytes
  pub written : new.written ≡ old.written
  pub writes : new.write_faults ≡ old.write_faults
  pub later : old.read_faults ≤ new.read_faults

-- the front of the list was taken, and is all of it unless the input ended
pub record Fills (old new : Link) (buf : List ℕ) (count : ℕ) : Type 0 where
  pub reads : Reads old new (take count buf)
  pub within : count ≤ length buf
  pub ends : count < length buf → IsAtEnd new.left

-- some bytes were taken, and then the stream couldn't be read
pub record FailsTaking (old new : Link) : Type 0 where
  pub taken : List ℕ
  pub reads : Reads old new taken
  pub rose : Rose old.read_faults new.read_faults

-- a list was filled, or the stream couldn't be read
abbrev pub FillsUp : {E : Type 0} → Link → Link → List ℕ → Result ℕ E → Type 0
FillsUp old new buf (Ok count) = Fills old new buf count
FillsUp old new buf (Err fault) = FailsTaking old new

-- why no frame was read: a fault, the end, or a length field
abbrev pub IsReason : Link → Link → List ℕ → Type 0
IsReason old new taken =
    Rose old.read_faults new.read_faults
    ⊎ (IsUnfinished taken × IsAtEnd new.left)
    ⊎ IsBadLength taken

-- some bytes were taken, and they are no frame for one of these reasons
pub record FailsReading (old new : Link) (before : List ℕ) : Type 0 where
  pub taken : List ℕ
  pub reads : Reads old new taken
  pub reason : IsReason old new (before ++ taken)

-- a length field was read, or none
abbrev pub TakesLength : {E : Type 0} → Link → Link → Result ℕ E → Type 0
TakesLength old new (Ok wanted) = IsFrameLength wanted × Reads old new (u32 wanted)
TakesLength old new (Err fault) = FailsReading old new []

-- a piece of a body, of which so many bytes were still to come, was taken and appended
pub record AppendsPiece (old new : Link) (left : ℕ) (before after : List ℕ) : Type 0 where
  pub piece : List ℕ
  pub reads : Reads old new piece
  pub some : 0 < length piece
  pub within : length piece ≤ left
  pub appended : after ≡ before ++ piece

-- some bytes were taken, and the stream couldn't be read or ended before a body did
pub record LacksPiece (old new : Link) (left : ℕ) : Type 0 where
  pub taken : List ℕ
  pub reads : Reads old new taken
  pub reason : Rose old.read_faults new.read_faults ⊎ ((length taken < left) × IsAtEnd new.left)

-- a piece of a body was appended, or the list stayed
abbrev pub TakesPiece : Link → Link → ℕ → List ℕ → List ℕ → Result (Unit {0}) PeerFault → Type 0
TakesPiece old new left before after (Ok done) = AppendsPiece old new left before after
TakesPiece old new left before after (Err faults.Link) =
    LacksPiece old new left × (after ≡ before)
TakesPiece old new left before after (Err faults.Memory) =
    (taken : List ℕ) × Reads old new taken × (after ≡ before)

-- some bytes were taken, and the list has no more than these
pub record TakesAtLeast (old new : Link) (reply : List ℕ) : Type 0 where
  pub taken : List ℕ
  pub reads : Reads old new taken
  pub few : length reply ≤ length taken

-- no frame was read, and the list has no more than the bytes that were taken
pub record FailsHolding (old new : Link) (before reply : List ℕ) : Type 0 where
  pub fails : FailsReading old new before
  pub few : length reply ≤ length fails.taken

-- the frame behind a length field was read, or not
abbrev pub TakesBody : Link → Link → ℕ → List ℕ → Result (Unit {0}) PeerFault → Type 0
TakesBody old new wanted reply (Ok done) = (length reply ≡ wanted) × Reads old new reply
TakesBody old new wanted reply (Err faults.Link) = FailsHolding old new (u32 wanted) reply
TakesBody old new wanted reply (Err faults.Memory) = TakesAtLeast old new reply

-- a frame was read, or not
abbrev pub TakesFrame : Link → Link → List ℕ → Result (Unit {0}) PeerFault → Type 0
TakesFrame old new reply (Ok done) = IsFrame reply × Reads old new (framed reply)
TakesFrame old new reply (Err faults.Link) = FailsHolding old new [] reply
TakesFrame old new reply (Err faults.Memory) = TakesAtLeast old new reply

-- a request was answered, or why it wasn't
abbrev pub ExchangesOrFails : Link → Link → List ℕ → List ℕ → Result (Unit {0}) PeerFault → Type 0
ExchangesOrFails old new request reply (Ok done) = IsFrame reply × Exchanges old new request reply
ExchangesOrFails old new request reply (Err faults.Link) =
    Breaks old new request × LinkFails old new × HoldsWhatCame old new reply
ExchangesOrFails old new request reply (Err faults.Memory) =
    Breaks old new request × HoldsWhatCame old new reply

-- the count of a peer that ends an ask with this fault
abbrev pub faults_after : ℕ → PeerFault → ℕ
faults_after before faults.Link = min (before + 1) (2 ^ 64 - 1)
faults_after before faults.Memory = before
