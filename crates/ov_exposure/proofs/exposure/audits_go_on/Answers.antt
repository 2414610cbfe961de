use Rattle.ov_exposure.proofs.Finding.{findings_are_in_order, findings_are_those}
use Rattle.ov_exposure.proofs.Meeting.{meets_is_any}
use Rattle.ov_exposure.proofs.Following.{next_may_follow}
use Rattle.ov_exposure.proofs.Noting.{audits_go_on, findings_are_exact, nothing_is_seen}
use Rattle.ov_exposure.proofs.exposure.audits_go_on.Goals as goal

pub returns : goal.returns
returns c = record {
  nothing = nothing_is_seen;
  follows = next_may_follow;
  goes_on = audits_go_on;
  findings = findings_are_exact;
  those = findings_are_those;
  order = findings_are_in_order;
  sets = meets_is_any;
}
