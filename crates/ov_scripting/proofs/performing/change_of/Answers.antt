use Rattle.ov_scripting.proofs.Performed.{creation_limits}
use Rattle.ov_scripting.proofs.performing.change_of.Goals as goal

pub returns-in-Create-clause-limits : goal.returns-in-Create-clause-limits
returns-in-Create-clause-limits c =
    creation_limits c.args.command.now c.in-Create.file c.in-Create.bytes c.as_slice.result.now
    c.in-Create.list c.requires c.in-Create.is c.as_slice.ensures
