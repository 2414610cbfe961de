use Rattle.std.proofs.Common.{◌++◌, ◌+◌, ◌∙◌, ℕ, List, sym, ap, subst}
use Rattle.ov_base.specs.Sets.{size}
use Rattle.ov_index.specs.Orders.{IsLarger, IsOrder, IsSizePlace}
use Rattle.ov_index.proofs.PlaceLaws.{inserted_by_size}
use Rattle.ov_index.proofs.by_size.insert.Goals as goal

pub returns-clause-order : goal.returns-clause-order
returns-clause-order g c =
    let all : List ℕ = c.args.sets.now ++ c.args.before.now in
    let at = subst (λ xs. IsSizePlace all xs c.count-users.result c.place-first.result) c.deref.ensures.value c.place-first.ensures in
    subst (IsOrder (IsLarger all) (c.args.node + 1)) (sym c.insert_within.ensures.items)
    (inserted_by_size all c.args.order.now.items c.args.node c.place-first.result c.requires.order
    (subst (λ users. IsSizePlace all c.args.order.now.items users c.place-first.result) (c.count-users.ensures.size ∙ ap size c.set_at.ensures) at))
