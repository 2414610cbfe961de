use Rattle.std.proofs.Common.{◌+◌, ◌%◌, ◌∙◌, ap, arith, bit_xor, get_or}
use Rattle.ov_ctr.proofs.Places.{pad_in_block}
use Rattle.ov_ctr.proofs.apply.apply_one.Goals as goal

pub returns : goal.returns
returns c = record {
  some = omega (arith, c.add_within.ensures.count);
  within = omega (arith, c.add_within.ensures.count);
  applied = λ i lt.
      let old = get_or c.args.rest.now i 0 in
      let pad = pad_in_block c.args.aes.now c.counter_block-block.result c.args.tag c.args.file c.args.place i c.counter_block-block.ensures (omega (arith, lt, c.add_within.ensures.count)) in
      c.add_within.ensures.added i lt
      ∙ ap (λ pads. bit_xor old (get_or pads (c.args.place % 16 + i) 0)) c.block.ensures
      ∙ ap (bit_xor old) pad;
  after = c.add_within.ensures.after;
}
