use Rattle.ov_record.proofs.BriefLaws.{brief_again_of}
use Rattle.ov_record.proofs.laws.briefs_are_read.Goals as goal

pub returns : goal.returns
returns c = λ form b rest room fits. brief_again_of form room b rest fits
