use Rattle.ov_record.proofs.UpdateLaws.{some_bytes, few_bytes}
use Rattle.ov_record.proofs.laws.spellings_fit_records.Goals as goal

pub returns : goal.returns
returns c = λ form u room few fits. (some_bytes form u, few_bytes form u room few fits)
