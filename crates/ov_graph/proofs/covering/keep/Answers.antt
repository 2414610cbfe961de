use Rattle.std.proofs.Common.{◌++◌, ◌∙◌, ℕ, List, get_or, refl, sym}
use Rattle.ov_graph.specs.declared.covering.Candidate.{Candidate}
use Rattle.ov_graph.proofs.CoverSteps.{kept_step, skipped_step}
use Rattle.ov_graph.proofs.covering.keep.Goals as goal
use Rattle.ov_graph.proofs.covering.keep.Goals.{then-not-within+in_ok-push, else-not-within}

pub loop-candidate-preserved : goal.loop-candidate-preserved
loop-candidate-preserved g c =
    let all : List ℕ = c.args.sets.now ++ c.args.before.now in
    let cs : List Candidate = c.args.candidates.now in
    let i : ℕ = c.loop-candidate.candidate-index in
    let none : Candidate = record { node = 0; lacks = 0 } in
    let here : Candidate = get_or cs i none in
    elim c.if-not-within.branch [
      | then-not-within+in_ok-push w ↦
          kept_step all cs i none here c.set_at-earlier.result.now c.loop-candidate.covered c.if-not-within.covered c.loop-candidate.from c.if-not-within.from c.loop-candidate-test.true refl c.set_at-earlier.ensures
          (sym c.within.ensures ∙ w.if-not-within.true) (w.from-is ∙ w.in_ok-push.ensures.ok) (w.covered-is ∙ w.union-covered.ensures)
          ∙ c.loop-candidate.invariant
      | else-not-within w ↦
          skipped_step all cs i none here c.set_at-earlier.result.now c.loop-candidate.covered c.if-not-within.covered c.loop-candidate.from c.if-not-within.from c.loop-candidate-test.true refl c.set_at-earlier.ensures
          (sym c.within.ensures ∙ w.if-not-within.false) w.from-is w.covered-is
          ∙ c.loop-candidate.invariant
    ]
