-- The place that a fault of a reader names, and frames that are too long.
use Rattle.std.specs.Prelude.{ℕ, nat_lt, Bool, true, false, List, length, Option, Some, None, Result, Err}
use Rattle.ov_base.specs.declared.limits.TheConstants.{MAX_FRAME_BYTES}
use Rattle.ov_wire.specs.declared.fault.WireFault.{WireFault}
use Rattle.ov_wire.specs.declared.fault.WireFault.TheVariants.{Bad, Memory}

-- the place that a fault names; none where memory ran out
abbrev pub place_of : WireFault → Option ℕ
place_of (Bad place) = Some place
place_of Memory = None

-- what is read of bytes, by whether they are more than a frame has
abbrev pub unless_long : {A : Type 0} → Bool → Result A ℕ → Result A ℕ
unless_long true read = Err MAX_FRAME_BYTES
unless_long false read = read

-- what is read of bytes that a frame has room for; of others the first one too many is wrong
abbrev pub in_frame : {A : Type 0} → List ℕ → Result A ℕ → Result A ℕ
in_frame bytes read = unless_long (nat_lt MAX_FRAME_BYTES (length bytes)) read
