use Rattle.ov_wire.proofs.StreamLaws.{two_frames}
use Rattle.ov_wire.proofs.laws.frames_are_told_apart.Goals as goal

pub returns : goal.returns
returns c = two_frames
