use Rattle.std.proofs.Common.{arith}
use Rattle.ov_ctr.proofs.Pad.{pad_by_places}
use Rattle.ov_ctr.proofs.apply.apply_blocks.Goals as goal

pub returns : goal.returns
returns c =
    pad_by_places c.args.key.now c.args.tag c.args.file c.args.start c.args.buf.now c.loop-done.buf c.loop-done.auto.buf
    (λ i lt. c.loop-done.invariant.before i (omega (arith, c.loop-done.auto.buf)))
