use Rattle.ov_history.proofs.Fading.{agreeing_keep_the_same, agreeing_show_the_same}
use Rattle.ov_history.proofs.Fading.{faded_is_sealed, faded_show_the_same}
use Rattle.ov_history.proofs.Fading.{right_histories_read_alike}
use Rattle.ov_history.proofs.FadedBytes.{agreeing_store_the_same}
use Rattle.ov_history.proofs.histories.gone_files_are_not_shown.Goals as goal

pub returns : goal.returns
returns c = record {
  faded = faded_show_the_same;
  agreeing = agreeing_show_the_same;
  bytes = agreeing_keep_the_same;
  stored = agreeing_store_the_same;
  sealed = faded_is_sealed;
  right = right_histories_read_alike;
}
