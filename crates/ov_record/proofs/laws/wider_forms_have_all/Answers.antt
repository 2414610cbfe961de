use Rattle.ov_record.proofs.BriefLaws.{wider_has_all}
use Rattle.ov_record.proofs.laws.wider_forms_have_all.Goals as goal

pub returns : goal.returns
returns c = wider_has_all
