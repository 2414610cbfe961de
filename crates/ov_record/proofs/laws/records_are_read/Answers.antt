use Rattle.std.proofs.Common.{length, ap}
use Rattle.ov_fields.specs.Reading.{placed}
use Rattle.ov_fields.proofs.WholeLaws.{all_again}
use Rattle.ov_record.specs.Stored.{stored_spelling}
use Rattle.ov_record.proofs.BriefLaws.{stored_reads}
use Rattle.ov_record.proofs.laws.records_are_read.Goals as goal

pub returns : goal.returns
returns c = λ form count s room fits. ap (placed (length (stored_spelling form s))) (all_again (stored_reads form room count) s fits)
