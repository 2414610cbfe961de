use Rattle.std.proofs.Common.{◌≡◌, drop}
use Rattle.ov_disk.specs.Tape.{stop, stepped_all, before}
use Rattle.ov_disk.proofs.stop.step_all.Given as goal

-- the changes that are left make of both what all of them make of them as they were
abbrev pub invariant-changes : goal.invariant-changes
invariant-changes l =
    stepped_all l.fn.tear (before l.fn.call (drop l.change-index l.fn.changes)) (stop l.now.current l.left.current)
    ≡ stepped_all l.fn.tear (before l.fn.call l.fn.changes) (stop l.fn.now.current l.fn.left.current)
