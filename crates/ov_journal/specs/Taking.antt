-- What a journal needs so that records may be added to it.
use Rattle.std.specs.Prelude.{◌≡◌, ◌≤◌, ◌<◌, ◌+◌, ◌^◌, ℕ, List, length, All, false}
use Rattle.ov_base.specs.declared.limits.TheConstants.{MAX_RECORD_BYTES}
use Rattle.ov_journal.specs.Log.{Log}

-- a body that a record can have: one byte or more, and no more than the longest
pub record IsBody (body : List ℕ) : Type 0 where
  pub some : 1 ≤ length body
  pub most : length body ≤ MAX_RECORD_BYTES

-- What a journal needs so that a record with this body may be added: no bad length ended it, it
-- isn't too long, and room was made for one more record and for a body of that length.
pub record MayTake (body : List ℕ) (log : Log) : Type 0 where
  pub whole : log.bad ≡ false
  pub count : length log.offsets < 2 ^ 40
  pub room : 0 < log.room
  pub can_be : IsBody body
  pub longest : length body ≤ log.longest

-- What a journal needs so that records with these bodies may be added, one after the other: room is
-- made for each before it is added.
pub record MayTakeAll (bodies : List (List ℕ)) (log : Log) : Type 0 where
  pub whole : log.bad ≡ false
  pub count : length log.offsets + length bodies < 2 ^ 40
  pub can_be : All IsBody bodies
