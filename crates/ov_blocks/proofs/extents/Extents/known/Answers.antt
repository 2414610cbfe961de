use Rattle.std.proofs.Common.{subst}
use Rattle.ov_blocks.specs.Extents.{AreApart, ShareNoBlock}
use Rattle.ov_blocks.specs.Slots.{without}
use Rattle.ov_blocks.proofs.Left.{apart_without}
use Rattle.ov_blocks.proofs.Others.{share_no_block}
use Rattle.ov_blocks.proofs.extents.Extents.known.Goals as goal

pub returns-clause-order : goal.returns-clause-order
returns-clause-order c = subst (AreApart 0) c.self.view_is (apart_without c.self.inside.gone c.self.inside.slots c.as_slice-slots.ensures.apart)

pub returns-clause-apart : goal.returns-clause-apart
returns-clause-apart c =
    subst ShareNoBlock c.self.view_is
    (share_no_block (without c.self.inside.gone c.self.inside.slots) (apart_without c.self.inside.gone c.self.inside.slots c.as_slice-slots.ensures.apart))
