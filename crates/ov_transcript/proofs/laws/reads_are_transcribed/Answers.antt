use Rattle.ov_transcript.proofs.ReadersTalks.{reads_are_fronts, reads_are_transcripts}
use Rattle.ov_transcript.proofs.laws.reads_are_transcribed.Goals as goal

pub returns : goal.returns
returns c = record { whole = reads_are_transcripts; front = reads_are_fronts }
