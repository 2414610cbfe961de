use Rattle.ov_script.proofs.WorkloadItems.{said}
use Rattle.ov_script.proofs.a_workload_says_items.Goals as goal

pub returns : goal.returns
returns c = said
