use Rattle.std.proofs.Common.{refl, rules, ap, subst, sym, ◌∙◌}
use Rattle.ov_script.specs.Place.{Place}
use Rattle.ov_script.specs.Taking.{EndsReading}
use Rattle.ov_io.specs.Calls.{no_piece, each_gave}
use Rattle.ov_io.proofs.Pieces.{while_as, while_same}
use Rattle.ov_script.proofs.Sayings.{ends_reading, fault_answered}
use Rattle.ov_script.proofs.script.Script.next.Goals as goal

pub returns-in-Some-clause-needed : goal.returns-in-Some-clause-needed
returns-in-Some-clause-needed g c = each_gave _ (no_piece _ refl) (search rules)

pub returns-in-Ok-clause-needed : goal.returns-in-Ok-clause-needed
returns-in-Ok-clause-needed g c =
    while_as g.S.Source.tells _ _ _ _ _ _ _ (λ e. absurd (cc)) (λ e. let clash = e.1 in absurd (cc)) c.in-Ok.ensures.needed

pub returns-in-Err-clause-needed : goal.returns-in-Err-clause-needed
returns-in-Err-clause-needed g c =
    while_same g.S.Source.tells _ _ _ _ _ _ (ap (λ (q : Place _). q.source) c.self-2.view_is)
    (while_as g.S.Source.tells _ _ _ _ _ _ _ (λ e. subst EndsReading (sym c.answer-in-Err.ensures) (ends_reading _ _))
    (λ e. let same = fault_answered _ _ _ (sym c.answer-in-Err.ensures ∙ e.1) in cc) c.in-Err.ensures.needed)
