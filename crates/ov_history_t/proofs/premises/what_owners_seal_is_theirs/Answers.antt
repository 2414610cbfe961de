use Rattle.std.proofs.Common.{refl}
use Rattle.ov_history_t.proofs.premises.what_owners_seal_is_theirs.Goals as goal

pub returns : goal.returns
returns c = λ k h u. ((u, refl), tt)
