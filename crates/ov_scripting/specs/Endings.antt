-- The exit statuses of a script, and why each comes.
use Rattle.std.specs.Prelude.{◌≡◌, ℕ}
use Rattle.ov_acts.specs.Stops.{stop_code}
use Rattle.ov_acts.specs.declared.stop.Stop.TheVariants as stops
use Rattle.ov_scripting.specs.declared.ended.Ended.{Ended}
use Rattle.ov_scripting.specs.declared.ended.Ended.TheVariants.{BadLine, Done, Long, Stopped}
use Rattle.ov_scripting.specs.declared.ended.Ended.TheVariants.{Unwritten}

-- the exit status: a script that is too long has that of a file with too many bytes
abbrev pub ended_code : Ended → ℕ
ended_code (Done epoch) = 0
ended_code (BadLine n) = 20
ended_code Long = 14
ended_code Unwritten = 6
ended_code (Stopped stop) = stop_code stop

-- A script stops for a failed read only where a count of what is read rose, for the link only where
-- the peer's count did, for a line that wasn't put only where the sink's did, and for its key file
-- only where that is none.
pub record EndsFor (reads writes links no_keys : Type 0) (ended : Ended) : Type 0 where
  pub read : ended ≡ Stopped stops.Read → reads
  pub write : ended ≡ Unwritten → writes
  pub link : ended ≡ Stopped stops.Link → links
  pub keys : ended ≡ Stopped stops.BadKeys → no_keys

-- Behind the last line a script ends as it ended before it, or for that line: since it wasn't put,
-- or since memory was refused for it.
pub data WritesFor (writes : Type 0) (before ended : Ended) : Type 0 where
  kept : ended ≡ before → WritesFor writes before ended
  unwritten : ended ≡ Unwritten → writes → WritesFor writes before ended
  forgotten : ended ≡ Stopped stops.Memory → WritesFor writes before ended
