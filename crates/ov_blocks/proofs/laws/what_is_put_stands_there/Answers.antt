use Rattle.ov_blocks.proofs.Writing.{puts_stand_there, puts_change_their_range}
use Rattle.ov_blocks.proofs.laws.what_is_put_stands_there.Goals as goal

pub returns-clause-there : goal.returns-clause-there
returns-clause-there c = puts_stand_there

pub returns-clause-rest : goal.returns-clause-rest
returns-clause-rest c = puts_change_their_range
