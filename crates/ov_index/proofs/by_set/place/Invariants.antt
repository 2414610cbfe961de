use Rattle.std.proofs.Common.{ℕ, ◌≡◌, ◌<◌, ◌≤◌, ◌-◌, true, false, get_or, length}
use Rattle.std.specs.Ordering.{is_lt}
use Rattle.ov_base.specs.Sets.{set_cmp}
use Rattle.ov_index.proofs.by_set.place.Given as goal

abbrev pub invariant-loop-low : goal.invariant-loop-low
invariant-loop-low g l = record {
  low : l.low ≤ l.high;
  high : l.high ≤ length l.order;
  before : (k : ℕ) → k < l.low → is_lt (set_cmp (get_or l.sets (get_or l.order k 0) 0) l.set) ≡ true;
  after : (k : ℕ) → l.high ≤ k → k < length l.order → is_lt (set_cmp (get_or l.sets (get_or l.order k 0) 0) l.set) ≡ false;
}

abbrev pub decreases-loop-low : goal.decreases-loop-low
decreases-loop-low g l = l.high - l.low
