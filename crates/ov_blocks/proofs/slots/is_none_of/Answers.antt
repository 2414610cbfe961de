use Rattle.std.proofs.Common.{sym, subst}
use Rattle.ov_blocks.specs.Places.{TellsNone}
use Rattle.ov_blocks.proofs.GivenUp.{found}
use Rattle.ov_blocks.proofs.slots.is_none_of.Goals as goal

pub returns : goal.returns
returns c =
    subst (TellsNone c.args.block c.args.blocks.now) (sym c.is_err.ensures.value)
    (found c.args.blocks.now c.args.block c.binary_search.result c.requires c.binary_search.ensures.position)
