-- What a call on one half of a stream leaves of the other.
use Rattle.std.specs.Prelude.{◌≡◌}
use Rattle.ov_io.specs.Tells.{SourceTells, SinkTells}

-- The source tells the same bytes, has failed as often, and is the same loan.
pub record LeavesSource {L : Type 0} (source : SourceTells L) (old new : L) : Type 0 where
  pub bytes : source.left new ≡ source.left old
  pub faults : source.faults new ≡ source.faults old
  pub borrow : source.borrow new ≡ source.borrow old

-- The sink tells the same bytes, has failed as often, and is the same loan.
pub record LeavesSink {L : Type 0} (sink : SinkTells L) (old new : L) : Type 0 where
  pub bytes : sink.written new ≡ sink.written old
  pub faults : sink.faults new ≡ sink.faults old
  pub borrow : sink.borrow new ≡ sink.borrow old
