use Rattle.std.proofs.Common.{take}
use Rattle.ov_wire.specs.Frames.{Takes, joined}
use Rattle.ov_wire.proofs.decoder.Decoder.feed_all.Given as goal

abbrev pub invariant-loop-piece : goal.invariant-loop-piece
invariant-loop-piece l = Takes l.fn.self l.self (joined (take l.piece-index l.pieces)) l.fn.frames.items l.frames.items
