use Rattle.ov_fields.proofs.WholeLaws.{no_front}
use Rattle.ov_record.proofs.BriefLaws.{stored_reads}
use Rattle.ov_record.proofs.laws.records_are_spelled_apart.Goals as goal

pub returns : goal.returns
returns c = λ form count a b x y room fa fb e. no_front (stored_reads form room count) a b x y fa fb e
