-- The exit statuses.
use Rattle.std.specs.Prelude.{ℕ}
use Rattle.ov_answering.specs.declared.status.Status.{Status}
use Rattle.ov_answering.specs.declared.status.Status.TheVariants.{Done, Usage, BadLine, DiskFault}
use Rattle.ov_answering.specs.declared.status.Status.TheVariants.{ReadFault, WriteFault}
use Rattle.ov_answering.specs.declared.status.Status.TheVariants.{OutOfMemory, NotAStore}
use Rattle.ov_answering.specs.declared.status.Status.TheVariants.{OtherStore, BadKeys, Long}
use Rattle.ov_answering.specs.declared.status.Status.TheVariants.{WrongTag, NotEmpty}

-- the number with which a run ends
abbrev pub status_code : Status → ℕ
status_code Done = 0
status_code Usage = 2
status_code BadLine = 3
status_code DiskFault = 4
status_code ReadFault = 5
status_code WriteFault = 6
status_code OutOfMemory = 7
status_code NotAStore = 8
status_code OtherStore = 9
status_code BadKeys = 10
status_code Long = 11
status_code WrongTag = 12
status_code NotEmpty = 14
