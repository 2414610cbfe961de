use Rattle.std.proofs.Common.{◌++◌, take}
use Rattle.std.proofs.KnownBytes.{Appends-trans}
use Rattle.ov_io.proofs.Known.{part_more, part_put}
use Rattle.ov_io.proofs.outside.write_all.Goals as goal

pub parts-preserved : goal.parts-preserved
parts-preserved g c =
    let inv = c.parts.invariant in
    (inv.0 ++ take c.write_some-count.result c.parts.rest.now, part_more _ _ _ _ _ inv.1 c.split_at.ensures.back, Appends-trans _ _ _ _ _ inv.2 c.write_some-count.ensures.bytes)

pub returns-then-count-eq0 : goal.returns-then-count-eq0
returns-then-count-eq0 g c =
    let inv = c.parts.invariant in
    part_put _ _ _ _ _ _ _ inv.1 inv.2 c.write_some-count.ensures.bytes
