use Rattle.std.proofs.Common.{subst}
use Rattle.ov_blocks.specs.Extents.{IsFree}
use Rattle.ov_blocks.proofs.Left.{free_without}
use Rattle.ov_blocks.proofs.extents.Extents.lowest.Goals as goal

pub lowest_run-lowest-requires-clause-none : goal.lowest_run-lowest-requires-clause-none
lowest_run-lowest-requires-clause-none c first lt is =
    c.requires.none first lt (subst (λ l. IsFree first c.args.blocks l) c.self.view_is (free_without c.self.inside.gone c.self.inside.slots first c.args.blocks is))
