use Rattle.std.proofs.Common.{ap, is_err}
use Rattle.std.proofs.lemmas.Result.{err_from_is_err_and}
use Rattle.ov_io.proofs.Pieces.{while_as}
use Rattle.ov_script.proofs.item.bodied.Goals as goal

pub returns-in_err-bytes-clause-needed : goal.returns-in_err-bytes-clause-needed
returns-in_err-bytes-clause-needed g c =
    let p = err_from_is_err_and c.from_residual.result c.from_residual.ensures.1 in
    while_as g.S.Source.tells _ _ _ _ _ _ _ (λ e. ap is_err p.1) (λ e. let is = p.1 in let that = p.2 in cc) c.in_err-bytes.ensures.needed

pub returns-clause-needed : goal.returns-clause-needed
returns-clause-needed g c = while_as g.S.Source.tells _ _ _ _ _ _ _ (λ e. absurd (cc)) (λ e. absurd (cc)) c.in_ok-bytes.ensures.needed
