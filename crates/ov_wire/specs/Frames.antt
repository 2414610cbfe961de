-- Streams of frames, and the state of a decoder in one.
use Rattle.std.specs.Prelude.{ℕ, ◌≡◌, ◌+◌, ◌≤◌, ◌<◌, ◌^◌, ◌⊎◌, Bool, true, false, List, [], ◌++◌, length, take, Result, Ok, Err, min}
use Rattle.std.specs.List.{flat_map, AllByRecursion}
use Rattle.ov_base.specs.declared.limits.TheConstants.{MAX_FRAME_BYTES}
use Rattle.ov_fields.specs.Spelling.{u32}
use Rattle.ov_wire.specs.declared.fault.FeedFault.{FeedFault}
use Rattle.ov_wire.specs.declared.fault.FeedFault.TheVariants.{BadFrame, Memory}
use Rattle.ov_wire.specs.declared.state.State.{State}
use Rattle.ov_wire.specs.declared.state.State.TheVariants as states

-- a frame behind its length field, as a stream has it
abbrev pub framed : List ℕ → List ℕ
framed frame = u32 (length frame) ++ frame

-- what a length field may announce
abbrev pub IsFrameLength : ℕ → Type 0
IsFrameLength n = (1 ≤ n) × (n ≤ MAX_FRAME_BYTES)

-- bytes that a frame may have
abbrev pub IsFrame : List ℕ → Type 0
IsFrame frame = IsFrameLength (length frame)

-- the bytes are these frames, each behind its length field, and then the rest
pub record IsCut (bytes : List ℕ) (frames : List (List ℕ)) (rest : List ℕ) : Type 0 where
  pub parts : bytes ≡ flat_map framed frames ++ rest
  pub each : AllByRecursion IsFrame frames

-- the bytes end inside a length field, or inside the frame behind one
pub data IsUnfinished (rest : List ℕ) : Type 0 where
  in_length : length rest < 4 → IsUnfinished rest
  in_frame : (n : ℕ) (front : List ℕ) → IsFrameLength n → rest ≡ u32 n ++ front
      → length front < n → IsUnfinished rest

-- the bytes begin with a length field outside its limits
pub record IsBadLength (rest : List ℕ) : Type 0 where
  pub n : ℕ
  pub more : List ℕ
  pub field : n < 2 ^ 32
  pub outside : (n ≡ 0) ⊎ (MAX_FRAME_BYTES < n)
  pub begins : rest ≡ u32 n ++ more

-- the state of a decoder: how many bytes of the stream were before the frame that isn't whole, what
-- came of it, and whether its length field is outside the limits
pub record Decoding : Type 0 where
  pub start : ℕ
  pub rest : List ℕ
  pub bad : Bool

-- a place in the stream; one past the last number of 64 bits stays there
abbrev pub later : ℕ → List (List ℕ) → ℕ
later start frames = min (start + length (flat_map framed frames)) 18446744073709551615

-- the frames that are whole now are appended
pub record Takes (old new : Decoding) (piece : List ℕ) (before after : List (List ℕ)) : Type 0 where
  pub good : old.bad ≡ false
  pub frames : List (List ℕ)
  pub appended : after ≡ before ++ frames
  pub cut : IsCut (old.rest ++ piece) frames new.rest
  pub unfinished : IsUnfinished new.rest
  pub start : new.start ≡ later old.start frames
  pub still_good : new.bad ≡ false

-- the frames before a bad length field are appended
pub record Stops (old new : Decoding) (piece : List ℕ) (before after : List (List ℕ))
    (place : ℕ) : Type 0 where
  pub good : old.bad ≡ false
  pub frames : List (List ℕ)
  pub rest : List ℕ
  pub appended : after ≡ before ++ frames
  pub cut : IsCut (old.rest ++ piece) frames rest
  pub bad_length : IsBadLength rest
  pub start : place ≡ later old.start frames
  pub stopped : new ≡ record { start = place; rest = []; bad = true }

-- a bad length field was met before
pub record StaysBad (old new : Decoding) (before after : List (List ℕ)) (place : ℕ) : Type 0 where
  pub bad : old.bad ≡ true
  pub same : new ≡ old
  pub unchanged : after ≡ before
  pub start : place ≡ old.start

-- what a decoder does with a piece of a stream
abbrev pub Feeds : Decoding → Decoding → List ℕ → List (List ℕ) → List (List ℕ)
    → Result (Unit {0}) FeedFault → Type 0
Feeds old new piece before after (Ok done) = Takes old new piece before after
Feeds old new piece before after (Err (BadFrame place)) =
    Stops old new piece before after place ⊎ StaysBad old new before after place
Feeds old new piece before after (Err Memory) = (new ≡ old) × (after ≡ before)

-- the pieces, one behind the other
abbrev pub joined : List (List ℕ) → List ℕ
joined pieces = flat_map (λ piece. piece) pieces

-- the first of the pieces are taken
pub record TakesSome (old new : Decoding) (pieces before after : List (List ℕ)) : Type 0 where
  pub taken : List (List ℕ)
  pub left : List (List ℕ)
  pub parts : pieces ≡ taken ++ left
  pub takes : Takes old new (joined taken) before after

-- What a decoder does with pieces of a stream, one after the other: what it does with them joined.
-- Memory is refused before all of them, or behind the first of them.
abbrev pub FeedsAll : Decoding → Decoding → List (List ℕ) → List (List ℕ) → List (List ℕ)
    → Result (Unit {0}) FeedFault → Type 0
FeedsAll old new pieces before after (Ok done) =
    Feeds old new (joined pieces) before after (Ok done)
FeedsAll old new pieces before after (Err (BadFrame place)) =
    Feeds old new (joined pieces) before after (Err (BadFrame place))
FeedsAll old new pieces before after (Err Memory) =
    Feeds old new (joined pieces) before after (Err Memory) ⊎ TakesSome old new pieces before after

-- ---- what is kept of a frame that isn't whole

-- what came of the frame that isn't whole
abbrev pub state_rest : State → List ℕ
state_rest (states.Length head filled) = take filled head
state_rest (states.Frame wanted body) = u32 wanted ++ body.items
state_rest states.Bad = []

-- whether the length field of that frame is outside the limits
abbrev pub is_bad : State → Bool
is_bad (states.Length head filled) = false
is_bad (states.Frame wanted body) = false
is_bad states.Bad = true

-- what came is fewer bytes than the length field, or the frame
abbrev pub IsState : State → Type 0
IsState (states.Length head filled) = (length head ≡ 4) × (filled < 4)
IsState (states.Frame wanted body) = IsFrameLength wanted × (length body.items < wanted)
IsState states.Bad = Unit {0}

-- an error where the stream is bad
abbrev pub verdict_at : Bool → ℕ → Result (Unit {0}) FeedFault
verdict_at true place = Err (BadFrame place)
verdict_at false place = Ok tt

-- what a decoder in this state answers
abbrev pub verdict : Decoding → Result (Unit {0}) FeedFault
verdict d = verdict_at d.bad d.start
