use Rattle.ov_client.proofs.Settled.{reads_are_answered as law}
use Rattle.ov_client.proofs.laws.reads_are_answered.Goals as goal

pub returns : goal.returns
returns c = law
