use Rattle.ov_acts.proofs.Enough.{key_files_are_enough, lines_are_enough}
use Rattle.ov_acts.proofs.laws.right_files_are_enough.Goals as goal

pub returns-clause-owners : goal.returns-clause-owners
returns-clause-owners c = key_files_are_enough

pub returns-clause-readers : goal.returns-clause-readers
returns-clause-readers c = lines_are_enough
