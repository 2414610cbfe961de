use Rattle.std.specs.Io.KnownBytes.{Keeps}
use Rattle.ov_retry.proofs.writing.write_retrying.Given as goal

-- An interrupted write puts nothing.
abbrev pub invariant-tries : goal.invariant-tries
invariant-tries g l = Keeps (g.W.Write.contents l.fn.writer) (g.W.Write.contents l.writer)
