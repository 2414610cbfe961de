use Rattle.std.proofs.Common.{length, ap}
use Rattle.ov_fields.specs.Reading.{placed}
use Rattle.ov_fields.proofs.WholeLaws.{all_again}
use Rattle.ov_record.specs.Spelling.{spelling}
use Rattle.ov_record.proofs.UpdateLaws.{update_reads}
use Rattle.ov_record.proofs.laws.spellings_are_read.Goals as goal

pub returns : goal.returns
returns c = λ form u room fits. ap (placed (length (spelling form u))) (all_again (update_reads form room) u fits)
