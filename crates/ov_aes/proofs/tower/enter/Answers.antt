use Rattle.std.proofs.Common.{◌/◌, ◌^◌, bit_and, bit_xor, refl}
use Rattle.ov_aes.specs.declared.tower.TheConstants.{LOW, HIGH}
use Rattle.ov_aes.proofs.Vectors.{both, down, looked, map_id, places, with_splat}
use Rattle.ov_aes.proofs.tower.enter.Goals as goal

pub look-requires : goal.look-requires
look-requires c =
    let v = c.args.x in
    places (λ x. bit_and x 15) v _ c.fits-x (with_splat bit_and (λ x. x) v v 15 c.fits-x.0 (map_id v)) refl

pub look-requires-2 : goal.look-requires-2
look-requires-2 c =
    let v = c.args.x in
    places (λ x. x / 2 ^ 4) v _ c.fits-x (with_splat down (λ x. x) v v 4 c.fits-x.0 (map_id v)) refl

pub returns : goal.returns
returns c =
    let v = c.args.x in
    let a = looked LOW (λ x. bit_and x 15) v _ _ c.look.ensures (with_splat bit_and (λ x. x) v v 15 c.fits-x.0 (map_id v)) in
    let b = looked HIGH (λ x. x / 2 ^ 4) v _ _ c.look-2.ensures (with_splat down (λ x. x) v v 4 c.fits-x.0 (map_id v)) in
    both bit_xor _ _ v _ _ a b
