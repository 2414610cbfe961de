use Rattle.ov_history.proofs.Numbering.{names_are_shown, numbered_once, spelled_once}
use Rattle.ov_history.proofs.Numbering.{updates_are_numbered, updates_are_spelled}
use Rattle.ov_history.proofs.histories.spelled_updates_are_numbered.Goals as goal

pub returns : goal.returns
returns c = record {
  numbered = updates_are_numbered;
  spelled = updates_are_spelled;
  names = names_are_shown;
  once = spelled_once;
  by_name = numbered_once;
}
