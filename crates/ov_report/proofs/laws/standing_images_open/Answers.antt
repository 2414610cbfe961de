use Rattle.ov_report.proofs.Opening.{faulted_so}
use Rattle.ov_report.proofs.laws.standing_images_open.Goals as goal

pub returns : goal.returns
returns c = λ k mode i fault values (g, mode_is, stands) why. faulted_so k mode g i mode_is fault values stands why
