use Rattle.std.proofs.Common.{rules, arith, refl, []}
use Rattle.std.proofs.KnownBytes.{Consumes-nil, Consumes-kept}
use Rattle.ov_io.specs.Calls.{no_piece, each_gave, last_gave_none}
use Rattle.ov_io.proofs.Buffers.{none_taken, piece_more, pieces_more}
use Rattle.ov_io.proofs.filling.fill.Goals as goal

pub pieces-init : goal.pieces-init
pieces-init g c = record {
  within = omega arith;
  long = refl;
  pieces = ([], refl, no_piece _ refl);
  taken = Consumes-nil _;
  same = refl;
  later = omega arith;
}

pub pieces-preserved : goal.pieces-preserved
pieces-preserved g c =
    let inv = c.pieces.invariant in
    record {
      within = search rules;
      long = search rules;
      pieces = pieces_more g.K.Source.tells _ _ _ _ _ _ _ inv.pieces (omega (arith, inv.long, c.pieces-test.true)) c.in_ok-count.ensures.step c.in_ok-count.ensures.bytes.0 c.in_ok-count.ensures.bound.0 c.if-count-eq0.false;
      taken = piece_more _ _ _ _ _ _ _ _ c.split_at_mut-room.ensures.front_len c.split_at_mut-room.ensures.front inv.taken c.in_ok-count.ensures.bytes.0;
      same = search rules;
      later = search rules;
    }

pub returns-in_err-count-clause-needed : goal.returns-in_err-count-clause-needed
returns-in_err-count-clause-needed g c =
    let inv = c.pieces.invariant in
    last_gave_none _ inv.pieces.0 inv.pieces.2 (omega (arith, inv.long, inv.pieces.1, c.pieces-test.true)) c.in_err-count.ensures.step (Consumes-kept _ _ _ _ (Consumes-nil _) c.in_err-count.ensures.bytes) tt

pub returns-then-count-eq0-clause-needed : goal.returns-then-count-eq0-clause-needed
returns-then-count-eq0-clause-needed g c =
    let inv = c.pieces.invariant in
    last_gave_none _ inv.pieces.0 inv.pieces.2 (omega (arith, inv.long, inv.pieces.1, c.pieces-test.true)) c.in_ok-count.ensures.step (none_taken _ _ _ _ c.if-count-eq0.true c.in_ok-count.ensures.bytes.0) tt

pub returns-clause-needed : goal.returns-clause-needed
returns-clause-needed g c = each_gave _ c.pieces.invariant.pieces.2 (λ e. absurd (cc))
