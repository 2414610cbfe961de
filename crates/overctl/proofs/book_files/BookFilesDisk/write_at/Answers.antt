use Rattle.std.proofs.Common.{length}
use Rattle.ov_disk.proofs.Stops.{torn_in_same}
use Rattle.overctl.proofs.book_files.BookFilesDisk.write_at.Goals as goal

pub returns-clause-crash : goal.returns-clause-crash
returns-clause-crash c left any = (left, tt, torn_in_same c.args._area c.args._at (length c.args._bytes.now) left)
