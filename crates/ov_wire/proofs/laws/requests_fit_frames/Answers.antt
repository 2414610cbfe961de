use Rattle.ov_wire.proofs.RequestLaws.{request_is_frame}
use Rattle.ov_wire.proofs.laws.requests_fit_frames.Goals as goal

pub returns : goal.returns
returns c = request_is_frame
