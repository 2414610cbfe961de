use Rattle.std.proofs.Common.{◌∙◌, subst}
use Rattle.ov_blocks.specs.Extents.{IsFree}
use Rattle.ov_blocks.proofs.slots.Slots.lowest_run.Goals as goal

pub lowest_run-requires-clause-none : goal.lowest_run-requires-clause-none
lowest_run-requires-clause-none c first lt is = c.requires.none first lt (subst (λ l. IsFree first c.args.blocks l) (c.deref.ensures.value ∙ c.self.view_is) is)
