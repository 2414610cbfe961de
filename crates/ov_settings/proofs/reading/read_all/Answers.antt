use Rattle.ov_settings.proofs.Whole.{nothing_taken}
use Rattle.ov_settings.proofs.reading.read_all.Goals as goal

pub returns-in-Err-clause-needed : goal.returns-in-Err-clause-needed
returns-in-Err-clause-needed g c = nothing_taken g.K.Source.tells _ _ (λ e. absurd (cc))
