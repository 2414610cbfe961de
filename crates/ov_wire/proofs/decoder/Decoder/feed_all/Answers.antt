use Rattle.std.proofs.Common.{◌≡◌, [], get_or, arith, subst, Err, List, ℕ}
use Rattle.std.proofs.lemmas.Grind.{common_steps}
use Rattle.std.proofs.lemmas.Result.{err_from_is_err_and}
use Rattle.ov_wire.specs.Frames.{Feeds, Takes}
use Rattle.ov_wire.proofs.StreamLaws.{fails_first, fails_at, goes_on, all_fed}
use Rattle.ov_wire.proofs.decoder.Decoder.feed_all.Goals as goal

pub returns-in_err-feed : goal.returns-in_err-feed
returns-in_err-feed c =
    let p = err_from_is_err_and c.from_residual.result c.from_residual.ensures.1 in
    rw (p.1, p.2) (fails_first c.args.self.now c.feed.new.self c.args.pieces.now c.args.frames.now.items c.feed.new.frames.items c.in_err-feed.field-0.0 c.in_err-feed.ensures)

pub returns-in_err-feed-2 : goal.returns-in_err-feed-2
returns-in_err-feed-2 c =
    let p = err_from_is_err_and c.from_residual-in_err-feed-2.result c.from_residual-in_err-feed-2.ensures.1 in
    let is : c.as_slice.result.now ≡ get_or c.args.pieces.now c.loop-piece.piece-index [] = grind (arith, common_steps) in
    let fed = c.in_err-feed-2.ensures in
    rw (p.1, p.2)
    (fails_at c.args.self.now c.loop-piece.self c.feed-in-loop-piece.new.self c.args.pieces.now c.args.frames.now.items c.loop-piece.frames.items c.feed-in-loop-piece.new.frames.items
    c.loop-piece.piece-index c.in_err-feed-2.field-0.0 c.loop-piece-test.true c.loop-piece.invariant
    (subst (λ (l : List ℕ). Feeds c.loop-piece.self c.feed-in-loop-piece.new.self l c.loop-piece.frames.items c.feed-in-loop-piece.new.frames.items (Err c.in_err-feed-2.field-0.0)) is fed))

pub loop-piece-preserved : goal.loop-piece-preserved
loop-piece-preserved c =
    let is : c.as_slice.result.now ≡ get_or c.args.pieces.now c.loop-piece.piece-index [] = grind (arith, common_steps) in
    goes_on c.args.self.now c.loop-piece.self c.feed-in-loop-piece.new.self c.args.pieces.now c.args.frames.now.items c.loop-piece.frames.items c.feed-in-loop-piece.new.frames.items
    c.loop-piece.piece-index c.loop-piece-test.true c.loop-piece.invariant
    (subst (λ (l : List ℕ). Takes c.loop-piece.self c.feed-in-loop-piece.new.self l c.loop-piece.frames.items c.feed-in-loop-piece.new.frames.items) is c.in_ok-feed-2.ensures)

pub returns : goal.returns
returns c = all_fed c.args.self.now c.loop-piece.self c.args.pieces.now c.args.frames.now.items c.loop-piece.frames.items c.loop-piece.piece-index (omega arith) c.loop-piece.invariant
