use Rattle.std.proofs.Common.{sym, ◌∙◌, ap, subst, arith}
use Rattle.std.specs.List.{remove}
use Rattle.ov_blocks.specs.Extents.{AreApart}
use Rattle.ov_blocks.specs.Gaps.{IsPacked}
use Rattle.ov_blocks.proofs.Places.{removed, removed_at}
use Rattle.ov_blocks.proofs.slots.Slots.close.Goals as goal

pub invariant_of-self : goal.invariant_of-self
invariant_of-self c =
    let place = c.in-Some.place in
    let left = removed_at c.self.inside.extents.items c.remove-extent.new.self.items place c.remove-extent.ensures.items (omega arith) in (
      subst (AreApart 0) (sym left) (removed 0 c.self.inside.extents.items place c.self.invariant.0),
      subst (λ l. IsPacked c.without-self-inside.result l) (ap (λ l. remove l place) c.deref.ensures.value ∙ sym left) c.without-self-inside.ensures,
    )
