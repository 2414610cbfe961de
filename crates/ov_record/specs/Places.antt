-- The place that a fault of a reader names.
use Rattle.std.specs.Prelude.{ℕ, Option, Some, None}
use Rattle.ov_record.specs.declared.fault.RecordFault.{RecordFault}
use Rattle.ov_record.specs.declared.fault.RecordFault.TheVariants.{BadRecord, Memory}

-- the place that a fault names; none where memory ran out
abbrev pub place_of : RecordFault → Option ℕ
place_of (BadRecord place) = Some place
place_of Memory = None
