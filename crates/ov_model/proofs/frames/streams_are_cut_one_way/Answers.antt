use Rattle.ov_model.proofs.Streams.{cut_one_way}
use Rattle.ov_model.proofs.frames.streams_are_cut_one_way.Goals as goal

pub returns : goal.returns
returns c = cut_one_way
