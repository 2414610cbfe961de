use Rattle.std.proofs.Common.{length, sym, ◌∙◌, subst, arith}
use Rattle.std.specs.Prelude.{All, Contains}
use Rattle.ov_disk.specs.Disk.{Only}
use Rattle.ov_blocks.specs.Extents.{AreGivenUp, BeginsOne}
use Rattle.ov_moves.specs.Bytes.{new_extent}
use Rattle.ov_moves.specs.Moves.{HasText}
use Rattle.ov_moves.specs.Placing.{AreMovesOf, ArePlaced, LiesIn}
use Rattle.ov_moves.specs.Releasing.{BeginsNew, GivesUp, GoApart}
use Rattle.ov_moves.specs.Rewriting.{StandsForEither}
use Rattle.ov_moves.specs.Updating.{AreMoved, IsBeforeOrAfterAll, IsMadeLast}
use Rattle.ov_moves.specs.declared.moves.Move.{Move}
use Rattle.ov_moves.proofs.Given.{are_held, given_back, go_apart, goes_on, lies_on, same_some}
use Rattle.ov_moves.proofs.NewExtents.{texts_of}
use Rattle.ov_moves.proofs.OldExtents.{begin_held, old_fewer, old_given}
use Rattle.ov_moves.proofs.Runs.{leaves_none, leaves_weaker, told_before}
use Rattle.ov_moves.proofs.Standing.{either_of, go_to_free, last_of, stands_same}
use Rattle.ov_moves.proofs.rewriting.rewrite.Goals as goal

pub returns-in_err-gone-clause-any_moment : goal.returns-in_err-gone-clause-any_moment
returns-in_err-gone-clause-any_moment g c =
    leaves_none g.D.Disk.tells (StandsForEither (g.T.Turn.turned c.args.turn.now) c.args.text.now (g.S.Spell.spelled c.args.spell.now) c.args.extents.now c.args.files.now) c.args.disk.now
    c.requires.settled (stands_same (g.T.Turn.turned c.args.turn.now) c.args.text.now (g.S.Spell.spelled c.args.spell.now) c.args.extents.now c.args.files.now)

pub returns-in_err-moves-clause-any_moment : goal.returns-in_err-moves-clause-any_moment
returns-in_err-moves-clause-any_moment g c =
    leaves_none g.D.Disk.tells (StandsForEither (g.T.Turn.turned c.args.turn.now) c.args.text.now (g.S.Spell.spelled c.args.spell.now) c.args.extents.now c.args.files.now) c.args.disk.now
    c.requires.settled (stands_same (g.T.Turn.turned c.args.turn.now) c.args.text.now (g.S.Spell.spelled c.args.spell.now) c.args.extents.now c.args.files.now)

pub spell_and_update-requires-clause-has_text : goal.spell_and_update-requires-clause-has_text
spell_and_update-requires-clause-has_text g c =
    subst (All (HasText c.args.text.now)) (sym c.deref.ensures.value)
    (texts_of c.args.text.now c.args.files.now c.in_ok-moves.moves.items c.in_ok-moves.ensures.moves c.requires.has_text)

pub release_new-requires-clause-held : goal.release_new-requires-clause-held
release_new-requires-clause-held g c =
    subst (All (λ (m : Move). Contains c.place_all.new.extents (new_extent m))) (sym c.deref-in-Err.ensures.value)
    (are_held (length c.args.files.now) c.args.files.now c.args.extents.now c.place_all.new.extents c.in_ok-moves.moves.items c.requires.files (omega arith) c.in_ok-moves.ensures.placed)

pub release_new-requires-clause-distinct : goal.release_new-requires-clause-distinct
release_new-requires-clause-distinct g c =
    subst GoApart (sym c.deref-in-Err.ensures.value)
    (go_apart (length c.args.files.now) c.args.files.now c.args.extents.now c.place_all.new.extents c.in_ok-moves.moves.items c.requires.files (omega arith) c.in_ok-moves.ensures.placed)

pub release_all-requires-clause-held : goal.release_all-requires-clause-held
release_all-requires-clause-held g c =
    subst (All (BeginsOne c.place_all.new.extents)) (sym c.deref-in-Ok.ensures.value)
    (begin_held c.args.files.now c.args.extents.now c.place_all.new.extents c.in_ok-moves.moves.items c.requires.files c.in_ok-moves.ensures.placed c.in_ok-gone.gone.items c.in_ok-gone.ensures)

pub returns-in-Ok-clause-any_moment : goal.returns-in-Ok-clause-any_moment
returns-in-Ok-clause-any_moment g c =
    let are = subst (AreMovesOf c.args.files.now) (sym c.deref.ensures.value) c.in_ok-moves.ensures.moves in
    let placed = subst (ArePlaced (length c.args.files.now) c.args.files.now c.args.extents.now c.place_all.new.extents) (sym c.deref.ensures.value) c.in_ok-moves.ensures.placed in
    leaves_weaker g.D.Disk.tells (IsBeforeOrAfterAll (g.T.Turn.turned c.args.turn.now) c.args.text.now c.deref.result.now (g.S.Spell.spelled c.args.spell.now c.deref.result.now))
    (StandsForEither (g.T.Turn.turned c.args.turn.now) c.args.text.now (g.S.Spell.spelled c.args.spell.now) c.args.extents.now c.args.files.now) c.args.disk.now c.spell_and_update.new.disk
    (λ i x. either_of (g.T.Turn.turned c.args.turn.now) c.args.text.now (g.S.Spell.spelled c.args.spell.now) c.args.extents.now c.place_all.new.extents c.args.files.now c.deref.result.now are placed c.known-2.ensures.order i x)
    c.spell_and_update.ensures.any_moment

pub returns-clause-any_moment : goal.returns-clause-any_moment
returns-clause-any_moment g c =
    let are = subst (AreMovesOf c.args.files.now) (sym c.deref.ensures.value) c.in_ok-moves.ensures.moves in
    let placed = subst (ArePlaced (length c.args.files.now) c.args.files.now c.args.extents.now c.place_all.new.extents) (sym c.deref.ensures.value) c.in_ok-moves.ensures.placed in
    leaves_weaker g.D.Disk.tells (IsBeforeOrAfterAll (g.T.Turn.turned c.args.turn.now) c.args.text.now c.deref.result.now (g.S.Spell.spelled c.args.spell.now c.deref.result.now))
    (StandsForEither (g.T.Turn.turned c.args.turn.now) c.args.text.now (g.S.Spell.spelled c.args.spell.now) c.args.extents.now c.args.files.now) c.args.disk.now c.spell_and_update.new.disk
    (λ i x. either_of (g.T.Turn.turned c.args.turn.now) c.args.text.now (g.S.Spell.spelled c.args.spell.now) c.args.extents.now c.place_all.new.extents c.args.files.now c.deref.result.now are placed c.known-2.ensures.order i x)
    c.spell_and_update.ensures.any_moment

pub returns-in-Ok-clause-moves : goal.returns-in-Ok-clause-moves
returns-in-Ok-clause-moves g c =
    go_to_free c.args.files.now c.args.extents.now c.place_all.new.extents c.in_ok-moves.moves.items c.in_ok-moves.ensures.moves c.in_ok-moves.ensures.placed c.known-2.ensures.order

pub returns-in-Ok-clause-lasts : goal.returns-in-Ok-clause-lasts
returns-in-Ok-clause-lasts g c i is =
    last_of (g.T.Turn.turned c.args.turn.now) c.args.text.now (g.S.Spell.spelled c.args.spell.now) c.args.extents.now c.place_all.new.extents c.args.files.now c.in_ok-moves.moves.items
    c.in_ok-moves.ensures.moves c.in_ok-moves.ensures.placed c.known-2.ensures.order i g.D.Disk.tells c.spell_and_update.new.disk
    (subst (λ m. IsMadeLast g.D.Disk.tells (g.T.Turn.turned c.args.turn.now) c.args.text.now m (g.S.Spell.spelled c.args.spell.now m) c.spell_and_update.new.disk i) c.deref.ensures.value (c.in-Ok.ensures.lasts i is))

pub returns-in-Ok-clause-held : goal.returns-in-Ok-clause-held
returns-in-Ok-clause-held g c =
    let up = subst (λ l. AreGivenUp l c.place_all.new.extents c.release_all.new.self) c.deref-in-Ok.ensures.value c.release_all.ensures in
    goes_on c.args.files.now c.args.extents.now c.place_all.new.extents c.release_all.new.self c.in_ok-moves.moves.items c.requires.files c.in_ok-moves.ensures.placed
    (old_given c.args.files.now c.args.extents.now c.place_all.new.extents c.in_ok-moves.moves.items c.requires.files c.in_ok-moves.ensures.placed c.in_ok-gone.gone.items c.in_ok-gone.ensures c.release_all.new.self up)
    (old_fewer c.args.files.now c.args.extents.now c.place_all.new.extents c.in_ok-moves.moves.items c.requires.files c.in_ok-moves.ensures.placed c.in_ok-gone.gone.items c.in_ok-gone.ensures c.release_all.new.self up)
    c.known-2.ensures.order

pub returns-in-Ok-clause-lies : goal.returns-in-Ok-clause-lies
returns-in-Ok-clause-lies g c k is_k =
    let up = subst (λ l. AreGivenUp l c.place_all.new.extents c.release_all.new.self) c.deref-in-Ok.ensures.value c.release_all.ensures in
    let from = told_before (g.D.Disk.tells.reads c.args.disk.now) (g.D.Disk.tells.reads c.spell_and_update.new.disk) c.spell_and_update.ensures.any_moment.untold k is_k in
    let made = c.in-Ok.ensures.lasts from.0 from.1 in
    subst (LiesIn c.release_all.new.self) (same_some made.now k (sym made.is_read ∙ is_k))
    (lies_on c.args.files.now c.args.extents.now c.place_all.new.extents c.release_all.new.self c.in_ok-moves.moves.items c.requires.files c.in_ok-moves.ensures.placed
    (old_given c.args.files.now c.args.extents.now c.place_all.new.extents c.in_ok-moves.moves.items c.requires.files c.in_ok-moves.ensures.placed c.in_ok-gone.gone.items c.in_ok-gone.ensures c.release_all.new.self up)
    (old_fewer c.args.files.now c.args.extents.now c.place_all.new.extents c.in_ok-moves.moves.items c.requires.files c.in_ok-moves.ensures.placed c.in_ok-gone.gone.items c.in_ok-gone.ensures c.release_all.new.self up)
    c.known-2.ensures.order (g.T.Turn.turned c.args.turn.now) c.args.text.now from.0 made.now (c.requires.lies from.0 from.1)
    (subst (λ m. AreMoved (g.T.Turn.turned c.args.turn.now) c.args.text.now m (from.0).blobs (made.now).blobs) c.deref.ensures.value made.blobs))

pub returns-in-Ok-clause-settled : goal.returns-in-Ok-clause-settled
returns-in-Ok-clause-settled g c k is_k =
    let from = told_before (g.D.Disk.tells.reads c.args.disk.now) (g.D.Disk.tells.reads c.spell_and_update.new.disk) c.spell_and_update.ensures.any_moment.untold k is_k in
    let made = c.in-Ok.ensures.lasts from.0 from.1 in
    subst (λ i. Only i (g.D.Disk.tells.may_leave c.spell_and_update.new.disk)) (same_some made.now k (sym made.is_read ∙ is_k)) made.only

pub returns-clause-given_back : goal.returns-clause-given_back
returns-clause-given_back g c =
    given_back (length c.args.files.now) c.args.files.now c.args.extents.now c.place_all.new.extents c.in_ok-moves.moves.items c.requires.files (omega arith) c.in_ok-moves.ensures.placed
    c.release_new.new.extents c.known.ensures.order c.known-in-Err.ensures.order
    (subst (λ n. GivesUp (BeginsNew n c.in_ok-moves.moves.items) c.place_all.new.extents c.release_new.new.extents) c.in_ok-moves.ensures.moves.many
    (subst (λ l. GivesUp (BeginsNew (length l) l) c.place_all.new.extents c.release_new.new.extents) c.deref-in-Err.ensures.value c.release_new.ensures))
