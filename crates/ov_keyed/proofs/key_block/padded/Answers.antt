-- The byte at the index is the next one that the loop XORs.
use Rattle.std.proofs.Common.{◌<◌, length, arith, bit_xor}
use Rattle.std.proofs.lemmas.Grind.{common_steps}
use Rattle.std.proofs.lemmas.List.Edits.{map_over_more}
use Rattle.ov_keyed.proofs.key_block.padded.Goals as goal

pub loop-place-preserved : goal.loop-place-preserved
loop-place-preserved c =
    let within : c.loop-place.place-index < length c.block_of-block.result = omega arith in
    map_over_more (λ b. bit_xor b c.args.byte) _ _ _ _ within c.loop-place.invariant
    (grind (arith, common_steps))
