use Rattle.std.proofs.Common.{◌≡◌, ◌++◌, ◌+◌, ◌∙◌, ℕ, List, length, rules, arith, sym, subst}
use Rattle.ov_index.specs.Orders.{IsLarger, IsOrder}
use Rattle.ov_index.proofs.OrderLaws.{more_sets}
use Rattle.ov_index.proofs.by_size.order_of_both.Goals as goal

pub loop-n-init : goal.loop-n-init
loop-n-init g c =
    let all : List ℕ = c.args.sets.now ++ c.args.before.now in
    let copied : c.in_ok-both.both.items ≡ c.args.order.now = search rules in
    let same : c.reserve.new.self.items ≡ c.args.order.now = c.reserve.ensures.items ∙ copied in
    let count : length c.args.sets.now ≡ length c.args.sets.now + 0 = omega arith in
    record {
      order = subst (IsOrder (IsLarger all) (length c.args.sets.now + 0)) (sym same) (subst (λ n. IsOrder (IsLarger all) n c.args.order.now) count (more_sets c.args.sets.now c.args.before.now (length c.args.sets.now) c.args.order.now (omega arith) c.requires.order));
      room = omega (arith, c.in_ok-reserve.ensures.ok);
    }
