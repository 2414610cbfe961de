use Rattle.std.proofs.Common.{◌+◌, ◌-◌, ◌/◌, ◌≡◌, ℕ, true, false, get_or, arith, sym, ◌∙◌, ap}
use Rattle.std.specs.Ordering.{is_lt}
use Rattle.std.proofs.lemmas.List.{get_or_default}
use Rattle.ov_base.specs.Sets.{set_cmp}
use Rattle.ov_index.proofs.PlaceLaws.{before_middle, after_middle}
use Rattle.ov_index.proofs.by_set.place.Goals as goal

pub loop-low-preserved-then-is_lt : goal.loop-low-preserved-then-is_lt
loop-low-preserved-then-is_lt g c =
    let middle : ℕ = c.loop-low.low + (c.loop-low.high - c.loop-low.low) / 2 in
    let set = c.index-sets-order.is ∙ get_or_default c.args.sets.now (get_or c.args.order.now middle 0) c.index-sets-order.result 0 (c.requires.inside middle 0 (omega arith)) in
    let is : is_lt (set_cmp (get_or c.args.sets.now (get_or c.args.order.now middle 0) 0) c.args.set.now) ≡ true =
    ap (λ s. is_lt (set_cmp s c.args.set.now)) (sym set) ∙ ap is_lt (sym c.cmp_bytes.ensures.order) ∙ sym c.is_lt.ensures ∙ c.if-is_lt.true in
    record {
      low = omega arith;
      high = omega arith;
      before = before_middle c.args.sets.now c.args.order.now c.args.set.now middle c.requires.order (omega arith) is;
      after = c.loop-low.invariant.after;
    }

pub loop-low-preserved : goal.loop-low-preserved
loop-low-preserved g c =
    let middle : ℕ = c.loop-low.low + (c.loop-low.high - c.loop-low.low) / 2 in
    let set = c.index-sets-order.is ∙ get_or_default c.args.sets.now (get_or c.args.order.now middle 0) c.index-sets-order.result 0 (c.requires.inside middle 0 (omega arith)) in
    let is : is_lt (set_cmp (get_or c.args.sets.now (get_or c.args.order.now middle 0) 0) c.args.set.now) ≡ false =
    ap (λ s. is_lt (set_cmp s c.args.set.now)) (sym set) ∙ ap is_lt (sym c.cmp_bytes.ensures.order) ∙ sym c.is_lt.ensures ∙ c.if-is_lt.false in
    record {
      low = omega arith;
      high = omega arith;
      before = c.loop-low.invariant.before;
      after = after_middle c.args.sets.now c.args.order.now c.args.set.now middle c.requires.order (omega arith) is;
    }
