use Rattle.std.proofs.Common.{refl}
use Rattle.ov_base.specs.Sets.{bytes_of}
use Rattle.ov_protocol_t.proofs.transcripts.the_frames_of_a_replacement_are_short.Goals as goal

pub returns : goal.returns
unfolding bytes_of
returns c = record { asks = refl; told = refl; sends = refl; made = refl }
