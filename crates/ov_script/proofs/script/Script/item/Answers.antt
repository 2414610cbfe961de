use Rattle.std.proofs.Common.{ap, is_err, ◌+◌, ◌-◌}
use Rattle.std.proofs.lemmas.Result.{err_from_is_err_and}
use Rattle.ov_script.specs.declared.next.Next.TheVariants.{Command}
use Rattle.ov_script.specs.Feed.{text_of}
use Rattle.ov_io.proofs.Pieces.{while_as}
use Rattle.ov_script.proofs.Sayings.{says_item, said_at, needed_at}
use Rattle.ov_script.proofs.script.Script.item.Goals as goal

pub returns-in_err-item-clause-needed : goal.returns-in_err-item-clause-needed
returns-in_err-item-clause-needed g c =
    let p = err_from_is_err_and c.from_residual.result c.from_residual.ensures.1 in
    needed_at g.S.Source.tells _ _ _ _ c.item_of.new.feed.source c.self.view_is
    (while_as g.S.Source.tells _ _ _ _ _ _ _ (λ e. ap is_err p.1) (λ e. let is = p.1 in let that = p.2 in cc) c.in_err-item.ensures.needed)

pub returns-clause-says : goal.returns-clause-says
returns-clause-says g c =
    let told = c.in_ok-item.ensures.found in (
      (told.0, told.1),
      said_at g.S.Source.tells _ _ (Command c.in_ok-item.item.command) (c.self.inside.line + c.in_ok-item.item.lines) (c.self.inside.room - c.in_ok-item.item.size) (text_of g.S.Source.tells c.item_of.new.feed) c.self.view_is
          (says_item g.S.Source.tells c.self.inside.line c.self.inside.room _ _ c.in_ok-item.item told),
    )

pub returns-clause-needed : goal.returns-clause-needed
returns-clause-needed g c =
    needed_at g.S.Source.tells _ _ _ _ c.item_of.new.feed.source c.self.view_is
    (while_as g.S.Source.tells _ _ _ _ _ _ _ (λ e. absurd (cc)) (λ e. absurd (cc)) c.in_ok-item.ensures.needed)
