use Rattle.ov_client.proofs.Refusing.{refusals_are_of_chains as law, refused_chains_end_reads}
use Rattle.ov_client.proofs.laws.refusals_are_of_chains.Goals as goal

pub returns-clause-only : goal.returns-clause-only
returns-clause-only c = law

pub returns-clause-ends : goal.returns-clause-ends
returns-clause-ends c = refused_chains_end_reads
