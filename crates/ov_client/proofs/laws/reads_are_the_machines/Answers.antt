use Rattle.ov_client.proofs.Machine.{reads_are_the_machines as law}
use Rattle.ov_client.proofs.laws.reads_are_the_machines.Goals as goal

pub returns : goal.returns
returns c = law
