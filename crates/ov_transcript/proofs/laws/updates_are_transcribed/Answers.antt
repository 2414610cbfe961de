use Rattle.ov_transcript.proofs.OwnersTalks.{talks_are_fronts, talks_are_transcripts}
use Rattle.ov_transcript.proofs.laws.updates_are_transcribed.Goals as goal

pub returns : goal.returns
returns c = record { whole = talks_are_transcripts; front = talks_are_fronts }
