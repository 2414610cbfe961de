use Rattle.std.proofs.Common.{◌≡◌, Err, ap}
use Rattle.ov_io.proofs.Pieces.{while_as}
use Rattle.ov_settings.specs.Settings.{fault_code}
use Rattle.ov_settings.proofs.Whole.{code_of_read, nothing_taken}
use Rattle.ov_settings.proofs.reading.read_settings.Goals as goal

pub returns-in-Ok-clause-needed : goal.returns-in-Ok-clause-needed
returns-in-Ok-clause-needed g c =
    while_as g.K.Source.tells _ _ _ _ _ _ _ (λ e. e) (λ e. absurd (cc)) c.in-Ok.ensures.needed

pub returns-in-Err-clause-needed : goal.returns-in-Err-clause-needed
returns-in-Err-clause-needed g c =
    while_as g.K.Source.tells _ _ _ _ _ _ _ (λ e. e)
    (λ e. let five : fault_code c.in-Err.fault ≡ 5 = cc in ap Err (code_of_read c.in-Err.fault five))
    c.in-Err.ensures.needed

pub returns-in_default-clause-needed : goal.returns-in_default-clause-needed
returns-in_default-clause-needed g c = nothing_taken g.K.Source.tells _ _ (λ e. absurd (cc))
