use Rattle.ov_moves.specs.Updating.{IsBeforeOrAfterAll}
use Rattle.ov_moves.proofs.Recording.{not_begun}
use Rattle.ov_moves.proofs.Runs.{leaves_none}
use Rattle.ov_moves.proofs.rewriting.spell_and_update.Goals as goal

pub returns-in_err-body-clause-any_moment : goal.returns-in_err-body-clause-any_moment
returns-in_err-body-clause-any_moment g c =
    leaves_none g.D.Disk.tells (IsBeforeOrAfterAll (g.T.Turn.turned c.args.turn.now) c.args.text.now c.args.moves.now (g.S.Spell.spelled c.args.spell.now c.args.moves.now)) c.args.disk.now
    c.requires.settled (not_begun (g.T.Turn.turned c.args.turn.now) c.args.text.now c.args.moves.now (g.S.Spell.spelled c.args.spell.now c.args.moves.now))

pub update-requires-clause-stands : goal.update-requires-clause-stands
update-requires-clause-stands g c i is =
    let stands = c.requires.stands i is in
    (c.take_memory.ensures.stands _ stands.0, stands.1)
