use Rattle.ov_load.proofs.Counting.{adds_up}
use Rattle.ov_load.proofs.laws.the_counts_add_up_to_the_commands.Goals as goal

pub returns : goal.returns
returns c = adds_up
