use Rattle.std.proofs.Common.{◌≡◌}
use Rattle.ov_disk_t.proofs.journal.bodies.Given as goal

abbrev pub invariant-records : goal.invariant-records
invariant-records g l = g.D.Disk.tells.reads l.disk ≡ g.D.Disk.tells.reads l.fn.disk
