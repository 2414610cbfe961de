use Rattle.std.proofs.Common.{refl}
use Rattle.ov_history_t.proofs.replacing.a_replacement_is_a_new_file_of_its_list.Goals as goal

-- a cover counts the users of a set
pub returns-clause-edges : goal.returns-clause-edges
unfolding lib.Count.ones
returns-clause-edges c = refl
