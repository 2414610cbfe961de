use Rattle.std.proofs.Common.{◌≡◌, ◌∙◌, ap, arith, bit_xor, get_or, length, sym, take}
use Rattle.std.proofs.lemmas.List.{take_all}
use Rattle.std.proofs.lemmas.Simd.{get_or-zip2, length-zip2, put_chunk_whole}
use lib.Lanes.{zip2}
use Rattle.ov_ctr.proofs.four.add_block.Goals as goal

pub returns : goal.returns
returns c i lt =
    let old = c.args.piece.now in
    let pad = c.args.pad in
    let long : length old ≡ 16 = c.requires in
    let all : take 16 old ≡ old = take_all 16 old (omega (arith, long)) in
    let same : length old ≡ length pad = long ∙ sym c.fits-pad.0 in
    rw all (ap (λ t. get_or t i 0) (put_chunk_whole old (zip2 bit_xor old pad) (sym (length-zip2 bit_xor old pad same)))
    ∙ get_or-zip2 bit_xor old pad i 0 0 0 (omega (arith, long)) (omega (arith, c.fits-pad.0)))
