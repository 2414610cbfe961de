use Rattle.std.proofs.Common.{◌≡◌, ◌++◌, ℕ, List, drop, rules, sym, subst}
use Rattle.ov_base.specs.Sets.{size}
use Rattle.ov_index.specs.Orders.{IsOrderBelow, IsSizePlace}
use Rattle.ov_index.proofs.LargerFirst.{order_below}
use Rattle.ov_index.proofs.by_size.cover_by.Goals as goal

pub keep-requires : goal.keep-requires
keep-requires g c =
    let all : List ℕ = c.args.sets.now ++ c.args.before.now in
    let at : IsSizePlace all c.args.order.now (size c.args.set.now) c.place.result = subst (λ users. IsSizePlace all c.args.order.now users c.place.result) c.count.ensures.size c.place.ensures in
    let below = order_below all c.args.set.now c.args.order.now c.place.result c.requires at in
    let back : c.split_at.result.1.now ≡ drop c.place.result c.args.order.now = search rules in
    (search rules, (c.count.ensures.width, subst (IsOrderBelow all c.args.set.now) (sym back) below))
