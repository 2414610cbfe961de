use Rattle.ov_record.proofs.BriefLaws.{some_bytes, few_bytes}
use Rattle.ov_record.proofs.laws.records_fit.Goals as goal

pub returns : goal.returns
returns c = λ form count s room few files fits. (some_bytes form s, few_bytes form count s room few files fits)
