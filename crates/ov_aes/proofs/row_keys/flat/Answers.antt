use Rattle.std.proofs.Common.{bit_xor, arith, get_or}
use Rattle.std.proofs.lemmas.Simd.{get_or-zip2}
use Rattle.std.proofs.lemmas.List.{get_or-replicate}
use Rattle.std.proofs.Common.{◌∙◌, ap, replicate}
use Rattle.ov_aes.proofs.row_keys.flat.Goals as goal

pub returns : goal.returns
returns c l lt =
    get_or-zip2 bit_xor c.args.row (replicate 16 0x63) l 0 0 0 (omega (arith, c.fits-row.0)) lt
    ∙ ap (bit_xor (get_or c.args.row l 0)) (get_or-replicate 16 l 0x63 0 lt)
