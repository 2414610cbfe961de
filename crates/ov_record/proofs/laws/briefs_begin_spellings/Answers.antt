use Rattle.ov_record.proofs.BriefLaws.{brief_and_body}
use Rattle.ov_record.proofs.laws.briefs_begin_spellings.Goals as goal

pub returns : goal.returns
returns c = λ form u. brief_and_body form u
