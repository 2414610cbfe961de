use Rattle.std.proofs.Common.{refl}
use Rattle.std.specs.Fmt.{digits}
use Rattle.ov_history_t.proofs.machine.a_removed_file_is_not_there.Goals as goal

pub returns : goal.returns
unfolding digits
returns c = refl
