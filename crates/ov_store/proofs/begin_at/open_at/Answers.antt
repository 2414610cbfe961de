use Rattle.std.proofs.Common.{◌∙◌, Ok, Result, subst}
use Rattle.ov_disk.specs.Disk.{Told}
use Rattle.ov_journal.specs.Finding.{Finds}
use Rattle.ov_journal.specs.Standing.{IsUnborn}
use Rattle.ov_journal.specs.declared.fault.JournalFault.{JournalFault}
use Rattle.ov_journal.specs.declared.found.Found.{Found}
use Rattle.ov_images.specs.Images.{keys}
use Rattle.ov_store.proofs.Opening.{birth_leaves_blank, none_at_birth}
use Rattle.ov_store.proofs.begin_at.open_at.Goals as goal

pub returns-in-Ok-Unborn-clause-fault : goal.returns-in-Ok-Unborn-clause-fault
returns-in-Ok-Unborn-clause-fault g c i is =
    none_at_birth (keys c.args.base_check.now c.args.surface.now.bytes) c.args.mode c.birth.result i
    c.birth.ensures.fault
    (subst (λ (r : Result Found JournalFault). Finds i.book r)
    (c.in-Ok-Unborn.is ∙ (λ j. Ok (c.in-Ok-Unborn.field-0-is j))) (c.begin.ensures.finds i is))

pub returns-in-Ok-Unborn-clause-any_moment : goal.returns-in-Ok-Unborn-clause-any_moment
returns-in-Ok-Unborn-clause-any_moment g c =
    let unborn : Told (g.D.Disk.tells.reads c.args.disk.now) (λ i. IsUnborn i.book) = λ i is.
    subst (λ (r : Result Found JournalFault). Finds i.book r)
    (c.in-Ok-Unborn.is ∙ (λ j. Ok (c.in-Ok-Unborn.field-0-is j))) (c.begin.ensures.finds i is) in
    birth_leaves_blank g.D.Disk.tells (keys c.args.base_check.now c.args.surface.now.bytes)
    c.args.mode c.args.disk.now c.begin.new.disk c.birth.new.disk unborn c.args.first
    c.in-Ok-Unborn.ensures.reads c.begin.ensures.any_moment c.birth.ensures.any_moment
