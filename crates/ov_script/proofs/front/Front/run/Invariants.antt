use Rattle.std.proofs.Common.{◌≡◌, drop}
use Rattle.ov_script.specs.LineFronts.{run}
use Rattle.ov_script.proofs.front.Front.run.Given as goal

abbrev pub invariant-loop-byte : goal.invariant-loop-byte
invariant-loop-byte l = run l.front (drop l.byte-index l.bytes) ≡ run l.fn.self l.bytes
