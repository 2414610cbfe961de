use Rattle.std.proofs.Common.{refl, rules, ℕ}
use Rattle.ov_machine.proofs.Stays.{holds_each}
use Rattle.ov_load.proofs.LoadTracing.{sent_unlined}
use Rattle.ov_load.proofs.WorkloadSteps.{tallied, unanswered_as, unlined}
use Rattle.ov_load.proofs.workload.answer.Goals as goal

pub returns-in_err-reply-clause-answer : goal.returns-in_err-reply-clause-answer
returns-in_err-reply-clause-answer g c = λ k h at stands.
    unanswered_as g.D.Disk.tells k h c.args.command _ _ _ _ _ c.in_err-reply.field-0.0 (search rules)
    (c.in_err-reply.ensures.steps k h at stands)

pub returns-clause-answer : goal.returns-clause-answer
returns-clause-answer g c = λ k h at stands.
    tallied g.D.Disk.tells k h c.args.command _ _ _ _ {T = ℕ} 0 c.in_ok-reply.reply c.deref.result.now (search rules)
    (c.in_ok-reply.ensures.steps k h at stands) c.take.ensures

-- the command is answered, and memory is refused for its line
pub returns-in_err-line-clause-answer : goal.returns-in_err-line-clause-answer
returns-in_err-line-clause-answer g c = λ k h at stands.
    unlined g.D.Disk.tells k h c.args.command _ _ _ _ _ c.in_ok-reply.reply (search rules)
    (c.in_ok-reply.ensures.steps k h at stands)

pub returns-in_err-line-clause-traced : goal.returns-in_err-line-clause-traced
returns-in_err-line-clause-traced g c = λ h stands.
    sent_unlined c.args.machine.now.kept.masters h c.args.command _ _ _ _ (search rules)
    (λ start holds image left. holds_each g.D.Disk.tells _ _ _ _
    ((c.in_ok-reply.ensures.steps c.args.machine.now.kept.masters h refl stands).1.holds start holds)
    image left)
    (c.in_ok-reply.ensures.traced h stands)
