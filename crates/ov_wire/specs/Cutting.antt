-- Inner: no public contract needs this. How a decoder's helpers cut bytes into frames.
use Rattle.std.specs.Prelude.{ℕ, ◌≡◌, ◌<◌, List, ◌++◌, length, take}
use Rattle.std.specs.List.{flat_map}
use Rattle.ov_fields.specs.Spelling.{u32}
use Rattle.ov_wire.specs.declared.cutting.Found.{Found}
use Rattle.ov_wire.specs.declared.cutting.Found.TheVariants as found
use Rattle.ov_wire.specs.declared.state.State.{State}
use Rattle.ov_wire.specs.declared.state.State.TheVariants as states
use Rattle.ov_wire.specs.Frames.{framed, IsFrame, IsFrameLength, IsCut, IsBadLength, state_rest, is_bad, IsState}

-- what is at the front of these bytes
abbrev pub IsFound : List ℕ → Found → Type 0
IsFound bytes (found.InLength head filled) =
    (bytes ≡ take filled head) × (length head ≡ 4) × (filled < 4)
IsFound bytes (found.InFrame wanted body) =
    (bytes ≡ u32 wanted ++ body.now) × IsFrameLength wanted × (length body.now < wanted)
IsFound bytes (found.Whole frame rest) =
    (bytes ≡ framed frame.now ++ rest.now) × IsFrame frame.now
IsFound bytes found.BadLength = IsBadLength bytes

-- the bytes are these frames, and then what the state keeps of the one that isn't whole
abbrev pub StateCut : List ℕ → List (List ℕ) → State → Type 0
StateCut bytes frames (states.Length head filled) =
    IsCut bytes frames (take filled head) × IsState (states.Length head filled)
StateCut bytes frames (states.Frame wanted body) =
    IsCut bytes frames (u32 wanted ++ body.items) × IsState (states.Frame wanted body)
StateCut bytes frames states.Bad = (rest : List ℕ) × IsCut bytes frames rest × IsBadLength rest

-- frames, and the bytes that they and their length fields have
pub record IsCutting (bytes : List ℕ) (frames : List (List ℕ)) (count : ℕ)
    (state : State) : Type 0 where
  pub cut : StateCut bytes frames state
  pub counted : count ≡ length (flat_map framed frames)

-- the frames that bytes hold were appended
pub record CutsOff (bytes : List ℕ) (before after : List (List ℕ)) (count : ℕ)
    (state : State) : Type 0 where
  pub frames : List (List ℕ)
  pub appended : after ≡ before ++ frames
  pub cutting : IsCutting bytes frames count state

-- a piece was taken, and the frames that are whole then were appended
abbrev pub Advances : State → State → List ℕ → List (List ℕ) → List (List ℕ) → ℕ → Type 0
Advances old new piece before after used =
    CutsOff (state_rest old ++ piece) before after used new

-- nothing was taken
pub record Keeps (old new : State) (before after : List (List ℕ)) : Type 0 where
  pub rest : state_rest new ≡ state_rest old
  pub bad : is_bad new ≡ is_bad old
  pub state : IsState new
  pub unchanged : after ≡ before
