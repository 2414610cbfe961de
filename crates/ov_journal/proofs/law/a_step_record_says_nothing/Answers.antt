use Rattle.std.proofs.Common.{◌≡◌, [], ◌∷◌, ◌++◌, sym, ◌∙◌, ap}
use Rattle.ov_journal.specs.Frames.{layout_of, with_record}
use Rattle.ov_journal.specs.Runs.{run_after}
use Rattle.ov_journal.specs.Steps.{step_body}
use Rattle.ov_journal.proofs.Says.{contents_in, says_step}
use Rattle.ov_journal.proofs.law.a_step_record_says_nothing.Goals as goal

pub returns : goal.returns
returns c book more due whole head run =
    let bodies = (run_after 78 book).bodies ++ step_body ∷ [] in
    let kept : run_after 78 more ≡ record { bodies = bodies; bad = (run_after 78 book).bad } =
    run ∙ (λ k. record { bodies = bodies; bad = sym whole k }) in
    let layout : layout_of more ≡ with_record step_body (layout_of book) = λ k. record { head = head k; run = kept k } in
    ap contents_in layout ∙ says_step (layout_of book) whole due
