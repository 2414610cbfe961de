use Rattle.std.proofs.KnownBytes.{Appends-kept, Appends-nil}
use Rattle.ov_io.proofs.outside.write_some.Goals as goal

pub returns-in-Err-clause-bytes : goal.returns-in-Err-clause-bytes
returns-in-Err-clause-bytes g c = Appends-kept _ _ _ _ (Appends-nil _) c.in-Err.ensures.bytes
