use Rattle.std.proofs.Common.{ℕ, ◌<◌, ◌≤◌, ◌-◌, ◌++◌, get_or, length}
use Rattle.ov_base.specs.Sets.{size}
use Rattle.ov_index.proofs.by_size.place.Given as goal

abbrev pub invariant-loop-low : goal.invariant-loop-low
invariant-loop-low g l = record {
  low : l.low ≤ l.high;
  high : l.high ≤ length l.order;
  before : (k : ℕ) → k < l.low → l.users ≤ size (get_or (l.sets ++ l.before) (get_or l.order k 0) 0);
  after : (k : ℕ) → l.high ≤ k → k < length l.order → size (get_or (l.sets ++ l.before) (get_or l.order k 0) 0) < l.users;
}

abbrev pub decreases-loop-low : goal.decreases-loop-low
decreases-loop-low g l = l.high - l.low
