use Rattle.std.proofs.Common.{◌+◌, ◌-◌, ◌≤◌, ◌++◌, length, vec_len, vec_capacity}
use Rattle.ov_index.specs.Orders.{IsLarger, IsOrder}
use Rattle.ov_index.proofs.by_size.order_of_both.Given as goal

abbrev pub invariant-loop-n : goal.invariant-loop-n
invariant-loop-n g l = record {
  order : IsOrder (IsLarger (l.sets ++ l.before)) (length l.sets + l.n) l.both.items;
  room : vec_len l.both + (length l.before - l.n) ≤ vec_capacity l.both;
}
