use Rattle.std.proofs.Common.{refl, sym, ◌∙◌}
use Rattle.ov_journal.proofs.Stepping.{is_ready, says_nothing, says_step_alone, step_makes_ready}
use Rattle.ov_journal.proofs.step.put_step.Goals as goal

pub returns-in_err-put_record-clause-any_moment : goal.returns-in_err-put_record-clause-any_moment
returns-in_err-put_record-clause-any_moment g c =
    says_step_alone g.D.Disk.tells c.args.disk.now c.put_record.new.disk c.args.end c.requires.stands
    (λ i is. sym (c.requires.due i is) ∙ sym c.is_due.ensures ∙ c.if-is_due.true) c.put_record.ensures.any_moment

pub returns-in_ok-put_record-clause-any_moment : goal.returns-in_ok-put_record-clause-any_moment
returns-in_ok-put_record-clause-any_moment g c =
    says_step_alone g.D.Disk.tells c.args.disk.now c.put_record.new.disk c.args.end c.requires.stands
    (λ i is. sym (c.requires.due i is) ∙ sym c.is_due.ensures ∙ c.if-is_due.true) c.put_record.ensures.any_moment

pub returns-in_ok-put_record-clause-ready : goal.returns-in_ok-put_record-clause-ready
returns-in_ok-put_record-clause-ready g c =
    step_makes_ready g.D.Disk.tells c.args.disk.now c.put_record.new.disk c.args.end _ refl c.requires.stands
    (λ i is. sym (c.requires.due i is) ∙ sym c.is_due.ensures ∙ c.if-is_due.true) c.in_ok-put_record.ensures.lasts

pub returns-else-is_due-clause-any_moment : goal.returns-else-is_due-clause-any_moment
returns-else-is_due-clause-any_moment g c = says_nothing g.D.Disk.tells c.args.disk.now c.args.end c.requires.stands

pub returns-else-is_due-clause-ready : goal.returns-else-is_due-clause-ready
returns-else-is_due-clause-ready g c =
    is_ready g.D.Disk.tells c.args.disk.now c.args.end c.args.end refl c.requires.stands (λ i is. sym (c.requires.due i is) ∙ sym c.is_due.ensures ∙ c.if-is_due.false)
