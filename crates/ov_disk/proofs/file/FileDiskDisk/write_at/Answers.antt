use Rattle.std.proofs.Common.{length}
use Rattle.ov_disk.proofs.Stops.{torn_in_same}
use Rattle.ov_disk.proofs.file.FileDiskDisk.write_at.Goals as goal

pub returns-clause-crash : goal.returns-clause-crash
returns-clause-crash g c left any = (left, tt, torn_in_same c.args.area c.args.at (length c.args.bytes.now) left)
