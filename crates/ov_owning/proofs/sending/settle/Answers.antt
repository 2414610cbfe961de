use Rattle.std.proofs.Common.{◌∙◌, ap}
use Rattle.ov_book.specs.Opened.{Opened}
use Rattle.ov_owning.proofs.Moments.{settled_moments}
use Rattle.ov_owning.proofs.Settled.{lasts_settled}
use Rattle.ov_owning.proofs.sending.settle.Goals as goal

pub returns-in-Ok-clause-lasts : goal.returns-in-Ok-clause-lasts
returns-in-Ok-clause-lasts g c = λ ok b holds.
    let same = c.in-Ok.ensures.answer.4 in
    lasts_settled g.D.Disk.tells b c.args.book.now c.settle.new.self c.in-Ok.ensures.told
    (ap (λ (x : Opened g.row.D.Denot). x.masters) same)
    (ap (λ (x : Opened g.row.D.Denot). x.failed) same ∙ c.requires.failed)
    (c.in-Ok.ensures.held b holds)

pub returns-in-Ok-clause-any_moment : goal.returns-in-Ok-clause-any_moment
returns-in-Ok-clause-any_moment g c =
    settled_moments g.D.Disk.tells c.args.book.now c.settle.new.self c.args.told c.settle.result
    c.requires.failed c.settle.ensures.answer c.settle.ensures.any_moment

pub returns-in-Err-clause-any_moment : goal.returns-in-Err-clause-any_moment
returns-in-Err-clause-any_moment g c =
    settled_moments g.D.Disk.tells c.args.book.now c.settle.new.self c.args.told c.settle.result
    c.requires.failed c.settle.ensures.answer c.settle.ensures.any_moment
