use Rattle.ov_acts.proofs.Enough.{legal_is_store}
use Rattle.ov_acts.proofs.laws.legal_histories_are_stores.Goals as goal

pub returns : goal.returns
returns c = legal_is_store
