-- What a stream tells.
use Rattle.std.specs.Prelude.{ℕ, ◌≡◌, ◌≤◌, ◌⊎◌, List, Option}
use Rattle.ov_base.specs.Causes.{Rose}
use Rattle.ov_io.specs.Tells.{SourceTells, SinkTells}

-- the bytes that it has left and those that were written, where it tells them, and how often each
-- half has failed
pub record Link : Type 0 where
  pub left : Option (List ℕ)
  pub written : Option (List ℕ)
  pub read_faults : ℕ
  pub write_faults : ℕ

-- what this stream tells, by its halves
abbrev pub link : {L : Type 0} → SourceTells L → SinkTells L → L → Link
link source sink stream =
    record {
      left = source.left stream;
      written = sink.written stream;
      read_faults = source.faults stream;
      write_faults = sink.faults stream;
    }

-- a count of the stream rose
abbrev pub LinkRose : Link → Link → Type 0
LinkRose old new =
    Rose old.read_faults new.read_faults ⊎ Rose old.write_faults new.write_faults

-- no count of the stream falls
pub record IsLater (old new : Link) : Type 0 where
  pub reads : old.read_faults ≤ new.read_faults
  pub writes : old.write_faults ≤ new.write_faults

-- the stream is the same loan, if it is one
pub record IsSameLoan {L : Type 0} (source : SourceTells L) (sink : SinkTells L) (old new : L)
    : Type 0 where
  pub reads : source.borrow new ≡ source.borrow old
  pub writes : sink.borrow new ≡ sink.borrow old
