use Rattle.std.proofs.Common.{refl}
use Rattle.ov_io.proofs.Pieces.{while_as}
use Rattle.ov_keyfile.proofs.Parts.{read_all, few}
use Rattle.ov_keyfile.proofs.reading.read_masters.Goals as goal

pub returns-clause-read : goal.returns-clause-read
returns-clause-read g c =
    read_all _ _ _ _ _ _ c.split_at.ensures.front c.split_at.ensures.front_len c.in_ok-count.ensures.taken.1 c.in_ok-count.ensures.all c.masters_of.ensures

pub returns-clause-taken : goal.returns-clause-taken
returns-clause-taken g c =
    (_, c.in_ok-count.ensures.taken.1, few _ _ c.in_ok-count.ensures.taken.0)

pub returns-in_err-count-clause-needed : goal.returns-in_err-count-clause-needed
returns-in_err-count-clause-needed g c =
    while_as g.K.Source.tells _ _ _ _ _ _ _ (λ e. e) (λ e. refl) c.in_err-count.ensures.needed
