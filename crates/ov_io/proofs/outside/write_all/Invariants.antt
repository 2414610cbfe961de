use Rattle.std.proofs.Common.{◌≡◌, ℕ, List, ◌++◌, length}
use Rattle.std.specs.Io.KnownBytes.{Appends}
use Rattle.ov_io.proofs.outside.write_all.Given as goal

abbrev pub invariant-parts : goal.invariant-parts
invariant-parts g l = (done : List ℕ) × (l.fn.bytes ≡ done ++ l.rest) × Appends (g.W.Write.contents l.fn.writer) (g.W.Write.contents l.writer) done

abbrev pub decreases-parts : goal.decreases-parts
decreases-parts g l = length l.rest
