use Rattle.ov_exposure.proofs.GivenAway.{access_keys_are_of_holders, server_reads_what_is_held}
use Rattle.ov_exposure.proofs.exposure.what_is_held_can_be_read_with_the_server.Goals as goal

pub returns : goal.returns
returns c = record {
  files = server_reads_what_is_held;
  keys = access_keys_are_of_holders;
}
