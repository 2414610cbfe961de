use Rattle.std.proofs.Common.{◌≡◌, ◌++◌, take}
use Rattle.ov_listing.specs.Texts.{files_of_text}
use Rattle.ov_consulting.proofs.lines.put_files_of.Given as goal

abbrev pub invariant-loop-listed : goal.invariant-loop-listed
invariant-loop-listed l =
    l.out.items ≡ l.fn.out.items ++ files_of_text l.user (take l.listed-index l.files)
