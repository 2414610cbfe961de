use Rattle.std.proofs.Common.{◌∙◌, ap}
use Rattle.ov_base.specs.NameLists.{with_name}
use Rattle.ov_owner.proofs.Copying.{copied}
use Rattle.ov_owner.proofs.names.copy_each.Goals as goal

pub loop-name-preserved : goal.loop-name-preserved
loop-name-preserved c =
    copied c.args.names.now c.loop-name.name-index c.name-item.result c.loop-name.copy c.insert.new.self
    c.requires c.loop-name-test.true c.name-item.is c.loop-name.invariant
    (c.in_ok-insert.ensures.ok ∙ ap (with_name c.loop-name.copy) c.copy.ensures)
