use Rattle.std.proofs.Common.{Ok, sym, ◌∙◌, ap, subst}
use Rattle.ov_disk.specs.Disk.{Image}
use Rattle.ov_journal.specs.Finding.{Finds}
use Rattle.ov_journal.specs.declared.found.Found.{Found}
use Rattle.ov_disk_t.proofs.step.opened.Goals as goal

-- what was opened reads as before, with nothing pending
pub returns-then-count-lt9-clause-stands : goal.returns-then-count-lt9-clause-stands
returns-then-count-lt9-clause-stands g c i is =
    let found = c.in-Ok-Born-default-default-None.ensures in
    let before = sym found.reads ∙ is in
    let store = subst (λ (f : Found). Finds i.book (Ok f)) c.in-Ok-Born-default-default-None.field-0-is (found.finds i before) in
    (store.records, λ x left. ap (λ (j : Image). j.book) (found.settled i before x left))
