-- A door in memory.
use Rattle.std.specs.Prelude.{◌≡◌, ℕ, List, Some, map, Bool, slice_get}
use Rattle.std.specs.Option.{option_map}
use Rattle.ov_io.specs.declared.stream.MemStream.{MemStream}
use Rattle.ov_session.specs.declared.memory.Gave.{Gave}
use Rattle.ov_session.specs.declared.memory.Returned.{Returned}
use Rattle.ov_session.specs.Doors.{Back, Given}

-- the streams that it will give, those that it gave, the numbers of the calls that fail, how many
-- calls there were, whether it has answered that there are no more, and how many calls failed
pub record Keeping : Type 0 where
  pub waiting : List MemStream
  pub gave : List (Given MemStream)
  pub fails : List ℕ
  pub calls : ℕ
  pub closed : Bool
  pub faults : ℕ

-- what was taken back, as contracts see it
abbrev pub seen_back : Returned → Back MemStream
seen_back returned = record { stream = returned.stream; ending = returned.ending }

-- a stream that was given, as contracts see it
abbrev pub seen : Gave → Given MemStream
seen gave = record { stream = gave.stream.value; back = option_map seen_back gave.back }

-- this was taken back of the stream of this number
abbrev pub IsBackAt : List (Given MemStream) → ℕ → Back MemStream → Type 0
IsBackAt gave number back =
    (stream : MemStream)
    × (slice_get gave number ≡ Some (record { stream = stream; back = Some back }))

-- the streams that were given, as contracts see them
abbrev pub all_seen : List Gave → List (Given MemStream)
all_seen gave = map seen gave
