-- The exit statuses.
use Rattle.std.specs.Prelude.{ℕ}
use Rattle.ov_acts.specs.declared.status.Status.{Status}
use Rattle.ov_acts.specs.declared.status.Status.TheVariants.{Done, Usage, Refused, Device}
use Rattle.ov_acts.specs.declared.status.Status.TheVariants.{ReadFault, WriteFault, OutOfMemory}
use Rattle.ov_acts.specs.declared.status.Status.TheVariants.{LinkFault, OtherKeys, BadKeys}
use Rattle.ov_acts.specs.declared.status.Status.TheVariants.{BadReply, Damaged, Unsettled, TooLong}

-- the number with which the program ends
abbrev pub status_code : Status → ℕ
status_code Done = 0
status_code Usage = 2
status_code Refused = 3
status_code Device = 4
status_code ReadFault = 5
status_code WriteFault = 6
status_code OutOfMemory = 7
status_code LinkFault = 8
status_code OtherKeys = 9
status_code BadKeys = 10
status_code BadReply = 11
status_code Damaged = 12
status_code Unsettled = 13
status_code TooLong = 14
