use Rattle.std.proofs.Common.{sym, ◌∙◌}
use Rattle.ov_disk.specs.Tape.{stop}
use Rattle.ov_disk.proofs.Stops.{at_end, at_call}
use Rattle.ov_disk.proofs.stop.step_all.Goals as goal

pub returns-after-changes : goal.returns-after-changes
returns-after-changes c =
    let so_far = stop c.changes.now.current c.changes.left.current in
    at_end c.args.tear c.args.call c.args.changes.now c.changes.change-index so_far _
    c.changes-test.false c.changes.invariant

pub returns-then-not-is_before : goal.returns-then-not-is_before
returns-then-not-is_before c =
    let so_far = stop c.changes.now.current c.changes.left.current in
    at_call c.args.tear c.args.call c.args.changes.now c.changes.change-index c.change-item.result so_far _
    c.changes-test.true (sym c.change-item.is) (sym c.is_before.ensures ∙ c.if-not-is_before.true)
    c.changes.invariant
