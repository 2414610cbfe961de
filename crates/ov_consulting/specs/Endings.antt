-- How a question to the owner's book ends, and why.
use Rattle.std.specs.Prelude.{◌≡◌, ℕ, List, Result, Err}
use Rattle.ov_acts.specs.declared.stop.Stop.{Stop}
use Rattle.ov_acts.specs.declared.stop.Stop.TheVariants as files
use Rattle.ov_book.specs.declared.fault.BookBegin.{BookBegin}
use Rattle.ov_book.specs.declared.fault.BookBegin.TheVariants as begins
use Rattle.ov_consulting.specs.declared.stop.BookStop.{BookStop}
use Rattle.ov_consulting.specs.declared.stop.BookStop.TheVariants as stops

-- how a question ends: with the bytes of its answer, or for this reason
abbrev pub End : Type 0
End = Result (List ℕ) BookStop

-- the exit status
abbrev pub stop_code : BookStop → ℕ
stop_code (stops.Refused why) = 3
stop_code stops.Read = 5
stop_code stops.Memory = 7
stop_code stops.OtherKeys = 9
stop_code stops.BadKeys = 10
stop_code stops.Disk = 17
stop_code stops.NoBook = 18

-- the reason where the key file isn't read so
abbrev pub unread : Stop → BookStop
unread files.BadKeys = stops.BadKeys
unread stop = stops.Read

-- the reason where the book isn't opened
abbrev pub unopened : BookBegin → BookStop
unopened begins.Disk = stops.Disk
unopened begins.NotAStore = stops.NoBook
unopened (begins.Damaged place) = stops.NoBook
unopened (begins.BaseDiffers stored given) = stops.OtherKeys
unopened (begins.SurfaceDiffers stored given) = stops.OtherKeys
unopened (begins.ModeDiffers stored given) = stops.OtherKeys
unopened begins.Memory = stops.Memory

-- the key file is said to be none only where it isn't one, and not to have been read only where the
-- count of its faults rose
pub record StopsForKeys (no_keys reads : Type 0) (end : End) : Type 0 where
  pub keys : end ≡ Err stops.BadKeys → no_keys
  pub read : end ≡ Err stops.Read → reads
