use Rattle.std.proofs.Common.{◌≡◌, sym, ◌∙◌, ap, subst}
use Rattle.std.specs.List.{remove}
use Rattle.ov_blocks.specs.Extents.{IsFree, IsWith}
use Rattle.ov_blocks.specs.Places.{IsBetween}
use Rattle.ov_blocks.specs.Slots.{without}
use Rattle.ov_blocks.proofs.Places.{is_free, is_with, removed}
use Rattle.ov_blocks.proofs.extents.Extents.hold.Goals as goal

pub returns-then-fits-clause-ok : goal.returns-then-fits-clause-ok
returns-then-fits-clause-ok c =
    let slots = c.self.inside.slots in
    let place = c.in-Some.place in
    let view : remove slots place ≡ c.args.self.now = sym (ap (λ g. without g slots) c.in-Some.is) ∙ c.self.view_is in
    let between = subst (λ l. IsBetween place c.args.first c.args.length (remove l place)) c.as_slice.ensures.same c.if-fits.ensures in
    subst (λ l. IsFree c.args.first c.args.length l × IsWith (record { first = c.args.first; length = c.args.length }) l c.replace.new.self) view (
      is_free 0 (remove slots place) place c.args.first c.args.length (removed 0 slots place c.as_slice.ensures.apart) between,
      is_with (record { first = c.args.first; length = c.args.length }) (remove slots place) c.replace.new.self place c.replace.ensures,
    )
