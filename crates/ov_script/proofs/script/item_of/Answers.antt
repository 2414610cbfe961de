use Rattle.std.proofs.Common.{ap, is_err, refl}
use Rattle.std.proofs.lemmas.Result.{err_from_is_err_and}
use Rattle.ov_io.specs.Calls.{each_gave}
use Rattle.ov_io.proofs.Pieces.{while_as}
use Rattle.ov_script.proofs.WholeItems.{tells_line, tells_bodied, sized_bodied, needed_bodied}
use Rattle.ov_script.proofs.script.item_of.Goals as goal

pub returns-in_err-said-clause-found : goal.returns-in_err-said-clause-found
returns-in_err-said-clause-found g c =
    let p = err_from_is_err_and c.from_residual.result c.from_residual.ensures.1 in
    rw (p.1, p.2) c.in_err-said.ensures.found

pub returns-in_err-said-clause-needed : goal.returns-in_err-said-clause-needed
returns-in_err-said-clause-needed g c =
    let p = err_from_is_err_and c.from_residual.result c.from_residual.ensures.1 in
    while_as g.S.Source.tells _ _ _ _ _ _ _ (λ e. ap is_err p.1) (λ e. let is = p.1 in let that = p.2 in cc) c.in_err-said.ensures.needed

pub returns-in-Whole-clause-found : goal.returns-in-Whole-clause-found
returns-in-Whole-clause-found g c = tells_line g.S.Source.tells c.args.room c.args.feed.now c.find.new.feed c.in_ok-said.field-0 c.in_ok-said.ensures.found (record { command = c.in-Whole.command; size = c.in_ok-said.field-0.size; lines = 1 }) c.in-Whole.is refl refl

pub returns-in-Whole-clause-needed : goal.returns-in-Whole-clause-needed
returns-in-Whole-clause-needed g c = each_gave _ c.in_ok-said.ensures.found.6 (λ e. absurd (cc))

pub returns-in-WithBody-clause-found : goal.returns-in-WithBody-clause-found
returns-in-WithBody-clause-found g c = tells_bodied g.S.Source.tells c.args.room c.args.feed.now c.find.new.feed c.in_ok-said.field-0 c.in_ok-said.ensures.found c.in-WithBody.head c.in-WithBody.body c.in-WithBody.is c.bodied.new.feed c.bodied.result c.bodied.ensures.found

pub returns-in-WithBody-clause-size : goal.returns-in-WithBody-clause-size
returns-in-WithBody-clause-size g c = sized_bodied g.S.Source.tells c.args.room c.args.feed.now c.find.new.feed c.in_ok-said.field-0 c.in_ok-said.ensures.found c.in-WithBody.head c.in-WithBody.body c.in-WithBody.is c.bodied.new.feed c.bodied.result c.bodied.ensures.found

pub returns-in-WithBody-clause-needed : goal.returns-in-WithBody-clause-needed
returns-in-WithBody-clause-needed g c = needed_bodied g.S.Source.tells c.args.room c.args.feed.now c.find.new.feed c.in_ok-said.field-0 c.in_ok-said.ensures.found c.in-WithBody.head c.in-WithBody.body c.in-WithBody.is c.bodied.new.feed _ _ c.bodied.ensures.needed
