use Rattle.ov_chain.proofs.SealLaws.{sealed_empty, sealed_more}
use Rattle.ov_chain.proofs.laws.graphs_are_sealed.Goals as goal

pub returns : goal.returns
returns c = record { empty = sealed_empty; more = sealed_more }
