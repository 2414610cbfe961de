use Rattle.ov_script.proofs.Readings.{one_reading}
use Rattle.ov_script.proofs.one_reading.Goals as goal

pub returns : goal.returns
returns c = one_reading
