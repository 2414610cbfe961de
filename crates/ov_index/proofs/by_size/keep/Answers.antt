use Rattle.std.proofs.Common.{◌<◌, ◌+◌, ◌++◌, ◌∙◌, ℕ, List, get_or, refl, sym, ap, eqb-true}
use Rattle.ov_base.specs.Sets.{empty, size}
use Rattle.ov_graph.specs.Cover.{kept}
use Rattle.ov_index.proofs.LargerFirst.{in_cover_order}
use Rattle.ov_index.proofs.KeepSteps.{ahead, kept_step, outside_step, covered_step, whole_cover}
use Rattle.ov_index.proofs.by_size.keep.Goals as goal
use Rattle.ov_index.proofs.by_size.keep.Goals.{then-within+then-not-within+in_ok-push+else-eq, else-within, else-within-via-then-within+else-not-within, else-within-via-else-within}

pub loop-node-init : goal.loop-node-init
loop-node-init g c =
    let all : List ℕ = c.args.sets.now ++ c.args.before.now in
    ap (λ from. from ++ kept all c.empty-covered.result (ahead all c.args.set.now c.args.order.now 0)) c.new-from.ensures
    ∙ ap (λ covered. kept all covered (ahead all c.args.set.now c.args.order.now 0)) c.empty-covered.ensures
    ∙ ap (kept all empty) (in_cover_order all c.args.set.now c.args.order.now c.requires.order)

pub returns-then-eq : goal.returns-then-eq
returns-then-eq g c =
    let all : List ℕ = c.args.sets.now ++ c.args.before.now in
    let i : ℕ = c.loop-node.node-index in
    let node : ℕ = get_or c.args.order.now i 0 in
    let less : size c.set_at-earlier.result.now < size c.args.set.now = rw c.set_at-earlier.ensures (c.requires.order.smaller i 0 c.loop-node-test.true) in
    whole_cover all c.args.set.now c.args.order.now (i + 1) c.push.new.self c.union-covered.result
    (eqb-true c.union-covered.result c.args.set.now (sym c.eq.ensures ∙ c.if-eq.true))
    (kept_step all c.args.set.now c.args.order.now i node c.set_at-earlier.result.now c.loop-node.covered c.union-covered.result c.loop-node.from c.push.new.self c.loop-node-test.true refl c.set_at-earlier.ensures
    less (sym c.within.ensures ∙ c.if-within.true) (sym c.within-then-within.ensures ∙ c.if-not-within.true) c.in_ok-push.ensures.ok c.union-covered.ensures
    ∙ c.loop-node.invariant)

pub loop-node-preserved : goal.loop-node-preserved
loop-node-preserved g c =
    let all : List ℕ = c.args.sets.now ++ c.args.before.now in
    let i : ℕ = c.loop-node.node-index in
    let node : ℕ = get_or c.args.order.now i 0 in
    let less : size c.set_at-earlier.result.now < size c.args.set.now = rw c.set_at-earlier.ensures (c.requires.order.smaller i 0 c.loop-node-test.true) in
    elim c.if-within.branch [
      | then-within+then-not-within+in_ok-push+else-eq w ↦
          kept_step all c.args.set.now c.args.order.now i node c.set_at-earlier.result.now c.loop-node.covered c.if-within.covered c.loop-node.from c.if-within.from c.loop-node-test.true refl c.set_at-earlier.ensures
          less (sym c.within.ensures ∙ w.if-within.true) (sym w.within-then-within.ensures ∙ w.if-not-within.true) (w.from-is ∙ w.in_ok-push.ensures.ok) (w.covered-is ∙ w.union-covered.ensures)
          ∙ c.loop-node.invariant
      | else-within w ↦ elim w.else-within.branch [
        | else-within-via-then-within+else-not-within v ↦
            covered_step all c.args.set.now c.args.order.now i node c.set_at-earlier.result.now c.loop-node.covered c.if-within.covered c.loop-node.from c.if-within.from c.loop-node-test.true refl c.set_at-earlier.ensures
            (sym v.within-then-within.ensures ∙ v.if-not-within.false) w.from-is w.covered-is
            ∙ c.loop-node.invariant
        | else-within-via-else-within v ↦
            outside_step all c.args.set.now c.args.order.now i node c.set_at-earlier.result.now c.loop-node.covered c.if-within.covered c.loop-node.from c.if-within.from c.loop-node-test.true refl c.set_at-earlier.ensures
            (sym c.within.ensures ∙ v.if-within.false) w.from-is w.covered-is
            ∙ c.loop-node.invariant
      ]
    ]
