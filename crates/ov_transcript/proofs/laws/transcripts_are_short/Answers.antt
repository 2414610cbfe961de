use Rattle.ov_transcript.proofs.Grants.{grants_send_no_bytes}
use Rattle.ov_transcript.proofs.Replacements.{replacements_send_new_bytes}
use Rattle.ov_transcript.proofs.Sizes.{transcripts_are_short}
use Rattle.ov_transcript.proofs.laws.transcripts_are_short.Goals as goal

pub returns : goal.returns
returns c = record {
  same = grants_send_no_bytes;
  new_bytes = replacements_send_new_bytes;
  short = transcripts_are_short;
}
