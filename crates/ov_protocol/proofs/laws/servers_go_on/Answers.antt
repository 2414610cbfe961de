use Rattle.ov_protocol.proofs.GoingOn.{epochs_go_on, servers_go_on, services_are_served}
use Rattle.ov_protocol.proofs.laws.servers_go_on.Goals as goal

pub returns : goal.returns
returns c = record {
  served = services_are_served;
  goes_on = servers_go_on;
  epochs = epochs_go_on;
}
