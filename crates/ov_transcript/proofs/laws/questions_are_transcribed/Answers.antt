use Rattle.ov_transcript.proofs.Questions.{first_answers_are_fronts, first_asks_are_fronts}
use Rattle.ov_transcript.proofs.Questions.{questions_are_transcripts, refusals_are_transcripts}
use Rattle.ov_transcript.proofs.laws.questions_are_transcribed.Goals as goal

pub returns : goal.returns
returns c = record {
  whole = questions_are_transcripts;
  refused = refusals_are_transcripts;
  answered = first_answers_are_fronts;
  front = first_asks_are_fronts;
}
