use Rattle.std.proofs.Common.{inl}
use Rattle.ov_wire.specs.Frames.{in_length}
use Rattle.ov_history_t.proofs.premises.short_bytes_are_an_end.Goals as goal

pub returns : goal.returns
returns c = λ bytes short. inl (in_length short)
