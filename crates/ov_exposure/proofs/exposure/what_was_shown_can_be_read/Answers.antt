use Rattle.ov_exposure.proofs.GivenAway.{coalition_reads_as_one, full_reads_what_was_listed}
use Rattle.ov_exposure.proofs.GivenAway.{none_is_bare_in_full, reads_what_was_listed_or_bare}
use Rattle.ov_exposure.proofs.Moments.{base_node_is_one}
use Rattle.ov_exposure.proofs.Naming.{name_is_one}
use Rattle.ov_exposure.proofs.exposure.what_was_shown_can_be_read.Goals as goal

pub returns : goal.returns
returns c = record {
  full = full_reads_what_was_listed;
  either = reads_what_was_listed_or_bare;
  coalition = coalition_reads_as_one;
  bare = none_is_bare_in_full;
  node = base_node_is_one;
  name = name_is_one;
}
