use Rattle.ov_protocol.proofs.Reading.{replies_are_frames, replies_are_read}
use Rattle.ov_protocol.proofs.laws.replies_are_read.Goals as goal

pub returns : goal.returns
returns c = record { frames = replies_are_frames; read = replies_are_read }
