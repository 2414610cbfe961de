-- The line on a file whose tag is wrong.
use Rattle.std.specs.Prelude.{ℕ, List, ◌++◌, codes}
use Rattle.ov_report.specs.Faults.{two_values}
use Rattle.ov_machine.specs.declared.fault.BadTag.{BadTag}

-- the line on a file whose tag is wrong
abbrev pub tag_line : BadTag → List ℕ
tag_line bad = codes "error tag " ++ bad.file ++ two_values bad.stored bad.computed
