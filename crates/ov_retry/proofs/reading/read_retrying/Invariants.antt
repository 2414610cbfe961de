use Rattle.std.proofs.Common.{◌≡◌, length}
use Rattle.std.specs.Io.KnownBytes.{Keeps}
use Rattle.ov_retry.proofs.reading.read_retrying.Given as goal

-- The buffer keeps its length, and an interrupted read takes nothing.
abbrev pub invariant-tries : goal.invariant-tries
invariant-tries g l = (length l.buf ≡ length l.fn.buf) × Keeps (g.R.Read.remaining l.fn.reader) (g.R.Read.remaining l.reader)
