use Rattle.std.proofs.Common.{◌≡◌}
use Rattle.ov_consulting.specs.Gathering.{files_before}
use Rattle.ov_consulting.proofs.names.files_of.Given as goal

abbrev pub invariant-loop-file : goal.invariant-loop-file
invariant-loop-file l = l.files.items ≡ files_before l.file l.state.catalogue
