use Rattle.std.proofs.Common.{arith}
use Rattle.ov_disk_t.proofs.blocks.asked.place_from.Goals as goal

pub place_from-requires-clause-none : goal.place_from-requires-clause-none
place_from-requires-clause-none g c lower lt is = c.place-first.ensures.lowest lower (omega (arith, lt)) is
