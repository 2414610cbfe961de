use Rattle.std.proofs.Common.{length, take, ◌++◌}
use Rattle.ov_wire.proofs.FrameLaws.{CutsOn}
use Rattle.ov_wire.proofs.cutting.cut_all.Given as goal

abbrev pub invariant-loop-frame : goal.invariant-loop-frame
invariant-loop-frame l = CutsOn (take l.fn.filled l.fn.head ++ l.bytes) l.fn.frames.items l.frames.items l.len l.filled l.head l.rest

abbrev pub decreases-loop-frame : goal.decreases-loop-frame
decreases-loop-frame l = length l.rest
