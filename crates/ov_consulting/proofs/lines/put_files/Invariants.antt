use Rattle.std.proofs.Common.{◌≡◌, ◌++◌}
use Rattle.ov_listing.specs.Texts.{files_text}
use Rattle.ov_consulting.proofs.lines.put_files.Given as goal

abbrev pub invariant-loop-listed : goal.invariant-loop-listed
invariant-loop-listed l = l.out.items ≡ l.fn.out.items ++ files_text l.yielded
