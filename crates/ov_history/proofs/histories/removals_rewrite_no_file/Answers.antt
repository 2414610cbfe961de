use Rattle.ov_history.proofs.OthersStaying.{removals_leave_others, removals_rewrite_no_file}
use Rattle.ov_history.proofs.OthersStaying.{replacements_leave_others}
use Rattle.ov_history.proofs.OthersStaying.{replacements_rewrite_the_new_file}
use Rattle.ov_history.proofs.histories.removals_rewrite_no_file.Goals as goal

pub returns : goal.returns
returns c = record {
  removal = removals_rewrite_no_file;
  left_by_removal = removals_leave_others;
  replacement = replacements_rewrite_the_new_file;
  left_by_replacement = replacements_leave_others;
}
