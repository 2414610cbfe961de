use Rattle.std.proofs.Common.{refl, rules}
use Rattle.ov_settings.proofs.Whole.{enough_as, finds_no_read, read_of}
use Rattle.ov_settings.proofs.reading.read_into.Goals as goal

pub returns-in_err-count-clause-needed : goal.returns-in_err-count-clause-needed
returns-in_err-count-clause-needed g c =
    enough_as g.K.Source.tells _ _ _ _ _ c.requires (λ e. refl) c.in_err-count.ensures.needed

pub returns-clause-read : goal.returns-clause-read
returns-clause-read g c =
    read_of _ _ _ _ _ _ _ c.split_at.ensures.front (search rules) c.requires c.in_ok-count.ensures.taken.0 c.in_ok-count.ensures.taken.1 c.in_ok-count.ensures.all c.settings_in.ensures

pub returns-clause-needed : goal.returns-clause-needed
returns-clause-needed g c =
    enough_as g.K.Source.tells _ _ _ _ _ c.requires (λ e. absurd (finds_no_read _ _ c.settings_in.ensures e)) c.in_ok-count.ensures.needed
