use Rattle.std.proofs.Common.{arith, get_or, sym, ◌∙◌, true≢false, eqb-true, eq-eqb}
use Rattle.std.proofs.lemmas.List.{get_or_default}
use Rattle.ov_index.proofs.PlaceLaws.{found, missed}
use Rattle.ov_index.proofs.by_set.find.Goals as goal
use Rattle.ov_index.proofs.by_set.find.Goals.{else-first-order-via-then-first-order+else-eq, else-first-order-via-else-first-order}

pub returns-then-eq : goal.returns-then-eq
returns-then-eq g c =
    let there = c.requires.inside c.place-first.result 0 c.if-first-order.true in
    let set = c.index-sets-order.is ∙ get_or_default c.args.sets.now (get_or c.args.order.now c.place-first.result 0) c.index-sets-order.result 0 there in
    let same = eqb-true c.index-sets-order.result c.args.set.now (sym c.eq.ensures ∙ c.if-eq.true) in
    sym (found c.args.sets.now c.args.order.now c.args.set.now c.place-first.result c.requires c.place-first.ensures c.if-first-order.true (sym set ∙ same))

pub returns-else-first-order : goal.returns-else-first-order
returns-else-first-order g c = sym (missed c.args.sets.now c.args.order.now c.args.set.now c.place-first.result c.requires c.place-first.ensures (elim c.else-first-order.branch [
  | else-first-order-via-then-first-order+else-eq w ↦ λ there same.
      let set = w.index-sets-order.is ∙ get_or_default c.args.sets.now (get_or c.args.order.now c.place-first.result 0) w.index-sets-order.result 0 (c.requires.inside c.place-first.result 0 there) in
      true≢false (sym (eq-eqb w.index-sets-order.result c.args.set.now (set ∙ same)) ∙ sym w.eq.ensures ∙ w.if-eq.false)
  | else-first-order-via-else-first-order w ↦ λ there same. omega arith
]))
