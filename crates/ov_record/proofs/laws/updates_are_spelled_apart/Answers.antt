use Rattle.ov_fields.proofs.WholeLaws.{no_front}
use Rattle.ov_record.proofs.UpdateLaws.{update_reads}
use Rattle.ov_record.proofs.laws.updates_are_spelled_apart.Goals as goal

pub returns : goal.returns
returns c = λ form a b x y room fa fb e. no_front (update_reads form room) a b x y fa fb e
