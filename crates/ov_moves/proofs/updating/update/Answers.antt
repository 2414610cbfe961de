use Rattle.std.proofs.Common.{◌≡◌, List, ℕ, sym, ◌∙◌, subst}
use Rattle.ov_disk.proofs.Runs.{on_both, then_on, weaker}
use Rattle.ov_blocks.specs.Writes.{IsLeftBy}
use Rattle.ov_journal.specs.Log.{IsBeforeOrAfter, IsLogOf}
use Rattle.ov_moves.specs.Moves.{IsKeptOutside}
use Rattle.ov_moves.specs.Updating.{IsBeforeOrAfterAll}
use Rattle.ov_moves.proofs.Recording.{before, either, made}
use Rattle.ov_moves.proofs.updating.update.Goals as goal

pub returns-in_err-move_all-clause-any_moment : goal.returns-in_err-move_all-clause-any_moment
returns-in_err-move_all-clause-any_moment g c = record {
  leaves = λ i is.
      weaker g.D.Disk.tells c.args.disk.now c.move_all.new.disk (IsLeftBy (IsKeptOutside c.args.moves.now) (g.D.Disk.tells.may_leave c.args.disk.now))
      (IsBeforeOrAfterAll (g.T.Turn.turned c.args.turn.now) c.args.text.now c.args.moves.now c.args.body.now i) c.move_all.ensures.goes.any_moment
      (before (g.T.Turn.turned c.args.turn.now) c.args.text.now c.args.moves.now c.args.body.now (g.D.Disk.tells.may_leave c.args.disk.now) i (c.requires.settled i is));
  untold = c.move_all.ensures.goes.untold;
  told = c.move_all.ensures.goes.told;
}

pub append-requires-clause-stands : goal.append-requires-clause-stands
append-requires-clause-stands g c k is =
    let from = c.in_ok-move_all.ensures.moved.back k is in
    let stands = c.requires.stands from.0 from.1 in
    let book : k.book ≡ (from.0).book = from.2.kept.book in (
      subst (λ (b : List ℕ). IsLogOf c.args.journal.now b) (sym book) stands.0,
      λ x left. let crash = c.move_all.ensures.goes.crash x left in crash.2.book ∙ stands.1 crash.0 crash.1 ∙ sym book,
    )

pub returns-clause-any_moment : goal.returns-clause-any_moment
returns-clause-any_moment g c = record {
  leaves = λ i is.
      let to = c.in_ok-move_all.ensures.moved.forth i is in
      then_on g.D.Disk.tells c.args.disk.now c.move_all.new.disk c.append.new.disk
      (IsBeforeOrAfterAll (g.T.Turn.turned c.args.turn.now) c.args.text.now c.args.moves.now c.args.body.now i) (IsBeforeOrAfter (g.D.Disk.tells.may_leave c.move_all.new.disk) to.0 c.args.body.now)
      (weaker g.D.Disk.tells c.args.disk.now c.move_all.new.disk (IsLeftBy (IsKeptOutside c.args.moves.now) (g.D.Disk.tells.may_leave c.args.disk.now))
      (IsBeforeOrAfterAll (g.T.Turn.turned c.args.turn.now) c.args.text.now c.args.moves.now c.args.body.now i) c.move_all.ensures.goes.any_moment
      (before (g.T.Turn.turned c.args.turn.now) c.args.text.now c.args.moves.now c.args.body.now (g.D.Disk.tells.may_leave c.args.disk.now) i (c.requires.settled i is)))
      (c.append.ensures.any_moment.leaves to.0 to.1)
      (λ x. either (g.T.Turn.turned c.args.turn.now) c.args.text.now c.args.moves.now c.args.body.now (g.D.Disk.tells.may_leave c.args.disk.now) i (c.requires.settled i is)
      (g.D.Disk.tells.may_leave c.move_all.new.disk) to.0 x c.move_all.ensures.goes.crash to.2);
  untold = λ none. c.append.ensures.any_moment.untold (c.move_all.ensures.goes.untold none);
  told = λ i is. let j = c.move_all.ensures.goes.told i is in c.append.ensures.any_moment.told j.0 j.1;
}

pub returns-clause-lasts : goal.returns-clause-lasts
returns-clause-lasts g c =
    on_both c.append.result _ _ _ c.append.ensures.acknowledged c.append.ensures.acknowledged (λ done again i is.
    let to = c.in_ok-move_all.ensures.moved.forth i is in
    made (g.T.Turn.turned c.args.turn.now) c.args.text.now c.args.moves.now c.args.body.now (g.D.Disk.tells.may_leave c.args.disk.now) i (c.requires.settled i is)
    g.D.Disk.tells c.append.new.disk to.0 to.2 (done.written.kept to.0 to.1))
