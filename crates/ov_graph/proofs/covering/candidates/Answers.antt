use Rattle.std.proofs.Common.{◌<◌, ◌++◌, ◌∙◌, ℕ, List, length, arith, ap, sym, length-append}
use Rattle.ov_graph.proofs.CandidateLaws.{candidate-size}
use Rattle.ov_graph.proofs.CoverSteps.{found_step, passed_step}
use Rattle.ov_graph.proofs.covering.candidates.Goals as goal
use Rattle.ov_graph.proofs.covering.candidates.Goals.{then-is_candidate+in_ok-push, else-is_candidate}

pub overflow_sub-size : goal.overflow_sub-size
overflow_sub-size g c =
    omega (arith, candidate-size c.args.set.now c.set_at-earlier.result.now (sym c.is_candidate.ensures ∙ c.if-is_candidate.true))

pub loop-node-preserved : goal.loop-node-preserved
loop-node-preserved g c =
    let all : List ℕ = c.args.sets.now ++ c.args.before.now in
    let inside : c.loop-node.node < length all = omega (arith, length-append c.args.sets.now c.args.before.now) in
    elim c.if-is_candidate.branch [
      | then-is_candidate+in_ok-push w ↦
          found_step all c.args.set.now c.loop-node.node c.set_at-earlier.result.now c.loop-node.found.items c.if-is_candidate.found.items inside c.set_at-earlier.ensures _
          (sym c.is_candidate.ensures ∙ w.if-is_candidate.true) (omega arith) (ap (λ v. v.items) w.found-is ∙ w.in_ok-push.ensures.items)
          ∙ c.loop-node.invariant
      | else-is_candidate w ↦
          passed_step all c.args.set.now c.loop-node.node c.set_at-earlier.result.now c.loop-node.found.items c.if-is_candidate.found.items inside c.set_at-earlier.ensures
          (sym c.is_candidate.ensures ∙ w.if-is_candidate.false) (ap (λ v. v.items) w.found-is)
          ∙ c.loop-node.invariant
    ]
