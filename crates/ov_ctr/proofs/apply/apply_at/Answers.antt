use Rattle.std.proofs.Common.{arith, refl}
use Rattle.ov_ctr.proofs.Pad.{pad_by_places}
use Rattle.ov_ctr.proofs.apply.apply_at.Goals as goal

pub returns-else-buf-gt0 : goal.returns-else-buf-gt0
returns-else-buf-gt0 c =
    pad_by_places c.args.key.now c.args.tag c.args.file c.args.start c.args.buf.now c.args.buf.now refl
    (λ i lt. absurd (omega (arith, lt, c.if-buf-gt0.false)))
