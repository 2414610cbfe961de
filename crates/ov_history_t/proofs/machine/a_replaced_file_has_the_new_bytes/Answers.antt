use Rattle.std.proofs.Common.{refl}
use Rattle.std.specs.Fmt.{digits}
use Rattle.ov_history_t.proofs.machine.a_replaced_file_has_the_new_bytes.Goals as goal

pub returns : goal.returns
unfolding digits
returns c = refl
