use Rattle.ov_settings.proofs.OneReading.{one_reading}
use Rattle.ov_settings.proofs.laws.settings_are_one.Goals as goal

pub returns : goal.returns
returns c = λ bytes one two a b. one_reading bytes one two a b
