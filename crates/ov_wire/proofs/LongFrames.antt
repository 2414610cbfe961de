-- Bytes that a frame has room for, and others.
use Rattle.std.proofs.Common.{◌≡◌, ℕ, ◌<◌, ◌≤◌, Bool, List, length, Result, Err, ap}
use Rattle.ov_base.specs.declared.limits.TheConstants.{MAX_FRAME_BYTES}
use Rattle.ov_base.proofs.Tests.{lt_is_true, lt_is_false}
use Rattle.ov_wire.specs.Places.{in_frame, unless_long}

pub too_long : {A : Type 0} (bytes : List ℕ) (read : Result A ℕ) → MAX_FRAME_BYTES < length bytes → in_frame bytes read ≡ Err MAX_FRAME_BYTES
too_long bytes read long = ap (λ (b : Bool). unless_long b read) (lt_is_true MAX_FRAME_BYTES (length bytes) long)

pub not_long : {A : Type 0} (bytes : List ℕ) (read : Result A ℕ) → length bytes ≤ MAX_FRAME_BYTES → in_frame bytes read ≡ read
not_long bytes read few = ap (λ (b : Bool). unless_long b read) (lt_is_false MAX_FRAME_BYTES (length bytes) few)
