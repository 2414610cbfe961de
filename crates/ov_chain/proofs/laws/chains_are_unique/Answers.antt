use Rattle.ov_chain.proofs.ShortestPaths.{one_chain}
use Rattle.ov_chain.proofs.laws.chains_are_unique.Goals as goal

pub returns : goal.returns
returns c = one_chain
