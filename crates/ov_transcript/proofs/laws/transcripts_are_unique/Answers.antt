use Rattle.ov_transcript.proofs.Once.{runs_have_one_transcript, transcripts_are_unique}
use Rattle.ov_transcript.proofs.laws.transcripts_are_unique.Goals as goal

pub returns : goal.returns
returns c = record { one = transcripts_are_unique; runs = runs_have_one_transcript }
