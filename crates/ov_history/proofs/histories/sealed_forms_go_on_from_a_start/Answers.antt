use Rattle.ov_history.proofs.Since.{sealed_since_goes_on, sealed_since_is_right}
use Rattle.ov_history.proofs.Since.{sealed_since_itself}
use Rattle.ov_history.proofs.histories.sealed_forms_go_on_from_a_start.Goals as goal

pub returns : goal.returns
returns c = record {
  itself = sealed_since_itself;
  goes_on = sealed_since_goes_on;
  right = sealed_since_is_right;
}
