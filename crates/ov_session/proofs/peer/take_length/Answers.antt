use Rattle.std.proofs.Common.{◌≤◌, length, inr, subst, sym, arith}
use Rattle.ov_wire.specs.Frames.{IsBadLength}
use Rattle.ov_session.specs.Links.{link}
use Rattle.ov_session.specs.Reading.{Reads}
use Rattle.ov_session.proofs.Replying.{bad_length, filled}
use Rattle.ov_session.proofs.peer.take_length.Goals as goal

pub returns-then-wanted-clause-takes : goal.returns-then-wanted-clause-takes
returns-then-wanted-clause-takes g c =
    let tells = link g.L.Source.tells g.L.Sink.tells in
    let whole : length c.take_into.new.buf ≤ c.in-Ok.count = omega (arith, c.in-Ok.ensures.len, c.if-count-lt4.false) in
    record {
      taken = c.take_into.new.buf;
      reads = filled (tells c.args.stream.now) (tells c.take_into.new.stream) c.take_into.new.buf c.in-Ok.count whole
          c.in-Ok.ensures.fills;
      reason = inr (inr (subst IsBadLength c.number_in-wanted.ensures.number
          (bad_length c.number_in-wanted.result c.number_in-wanted.ensures.fits (inr c.if-wanted.true))));
    }

pub returns-clause-takes : goal.returns-clause-takes
returns-clause-takes g c =
    let tells = link g.L.Source.tells g.L.Sink.tells in
    let whole : length c.take_into.new.buf ≤ c.in-Ok.count = omega (arith, c.in-Ok.ensures.len, c.if-count-lt4.false) in (
      (omega (arith, c.if-wanted-eq0.false), c.if-wanted.false),
      subst (Reads (tells c.args.stream.now) (tells c.take_into.new.stream)) (sym c.number_in-wanted.ensures.number)
          (filled (tells c.args.stream.now) (tells c.take_into.new.stream) c.take_into.new.buf c.in-Ok.count whole
          c.in-Ok.ensures.fills),
    )
