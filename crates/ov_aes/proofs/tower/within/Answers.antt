use Rattle.std.proofs.Common.{bit_and, bit_xor, refl}
use Rattle.ov_aes.specs.Tower.{entry_at, low_of, high_of, both_of, first_of, second_of, third_of, fourth_of}
use Rattle.ov_aes.specs.declared.tower.TheConstants.{INV, INVA, ONE_A, ONE_B, TWO_A, TWO_B}
use Rattle.ov_aes.proofs.Vectors.{both, down, looked, map_id, places, with_splat}
use Rattle.ov_aes.proofs.tower.within.Goals as goal

pub look-a-requires : goal.look-a-requires
look-a-requires c =
    let v = c.args.y in
    let k = with_splat bit_and (λ x. x) v v 15 c.fits-y.0 (map_id v) in
    places low_of v _ c.fits-y k refl

pub look-b-requires : goal.look-b-requires
look-b-requires c =
    let v = c.args.y in
    let i = with_splat down (λ x. x) v v 4 c.fits-y.0 (map_id v) in
    places high_of v _ c.fits-y i refl

pub look-d-requires : goal.look-d-requires
look-d-requires c =
    let v = c.args.y in
    let k = with_splat bit_and (λ x. x) v v 15 c.fits-y.0 (map_id v) in
    let i = with_splat down (λ x. x) v v 4 c.fits-y.0 (map_id v) in
    let j = both bit_xor high_of low_of v _ _ i k in
    places both_of v _ c.fits-y j refl

pub look-e-requires : goal.look-e-requires
look-e-requires c =
    let v = c.args.y in
    let k = with_splat bit_and (λ x. x) v v 15 c.fits-y.0 (map_id v) in
    let i = with_splat down (λ x. x) v v 4 c.fits-y.0 (map_id v) in
    let a = looked INVA low_of v _ _ c.look-a.ensures k in
    let b = looked INV high_of v _ _ c.look-b.ensures i in
    let ba = both bit_xor (λ x. entry_at INV (high_of x)) (λ x. entry_at INVA (low_of x)) v _ _ b a in
    places first_of v _ c.fits-y ba refl

pub look-f-requires : goal.look-f-requires
look-f-requires c =
    let v = c.args.y in
    let k = with_splat bit_and (λ x. x) v v 15 c.fits-y.0 (map_id v) in
    let i = with_splat down (λ x. x) v v 4 c.fits-y.0 (map_id v) in
    let a = looked INVA low_of v _ _ c.look-a.ensures k in
    let j = both bit_xor high_of low_of v _ _ i k in
    let d = looked INV both_of v _ _ c.look-d.ensures j in
    let da = both bit_xor (λ x. entry_at INV (both_of x)) (λ x. entry_at INVA (low_of x)) v _ _ d a in
    places second_of v _ c.fits-y da refl

pub look-g-requires : goal.look-g-requires
look-g-requires c =
    let v = c.args.y in
    let k = with_splat bit_and (λ x. x) v v 15 c.fits-y.0 (map_id v) in
    let i = with_splat down (λ x. x) v v 4 c.fits-y.0 (map_id v) in
    let a = looked INVA low_of v _ _ c.look-a.ensures k in
    let j = both bit_xor high_of low_of v _ _ i k in
    let b = looked INV high_of v _ _ c.look-b.ensures i in
    let ba = both bit_xor (λ x. entry_at INV (high_of x)) (λ x. entry_at INVA (low_of x)) v _ _ b a in
    let e = looked INV first_of v _ _ c.look-e.ensures ba in
    let ej = both bit_xor (λ x. entry_at INV (first_of x)) both_of v _ _ e j in
    places third_of v _ c.fits-y ej refl

pub look-h-requires : goal.look-h-requires
look-h-requires c =
    let v = c.args.y in
    let k = with_splat bit_and (λ x. x) v v 15 c.fits-y.0 (map_id v) in
    let i = with_splat down (λ x. x) v v 4 c.fits-y.0 (map_id v) in
    let a = looked INVA low_of v _ _ c.look-a.ensures k in
    let j = both bit_xor high_of low_of v _ _ i k in
    let d = looked INV both_of v _ _ c.look-d.ensures j in
    let da = both bit_xor (λ x. entry_at INV (both_of x)) (λ x. entry_at INVA (low_of x)) v _ _ d a in
    let f = looked INV second_of v _ _ c.look-f.ensures da in
    let fi = both bit_xor (λ x. entry_at INV (second_of x)) high_of v _ _ f i in
    places fourth_of v _ c.fits-y fi refl

pub look-m-requires : goal.look-m-requires
look-m-requires c =
    let v = c.args.y in
    let k = with_splat bit_and (λ x. x) v v 15 c.fits-y.0 (map_id v) in
    let i = with_splat down (λ x. x) v v 4 c.fits-y.0 (map_id v) in
    let a = looked INVA low_of v _ _ c.look-a.ensures k in
    let j = both bit_xor high_of low_of v _ _ i k in
    let b = looked INV high_of v _ _ c.look-b.ensures i in
    let ba = both bit_xor (λ x. entry_at INV (high_of x)) (λ x. entry_at INVA (low_of x)) v _ _ b a in
    let e = looked INV first_of v _ _ c.look-e.ensures ba in
    let ej = both bit_xor (λ x. entry_at INV (first_of x)) both_of v _ _ e j in
    places third_of v _ c.fits-y ej refl

pub look-n-requires : goal.look-n-requires
look-n-requires c =
    let v = c.args.y in
    let k = with_splat bit_and (λ x. x) v v 15 c.fits-y.0 (map_id v) in
    let i = with_splat down (λ x. x) v v 4 c.fits-y.0 (map_id v) in
    let a = looked INVA low_of v _ _ c.look-a.ensures k in
    let j = both bit_xor high_of low_of v _ _ i k in
    let d = looked INV both_of v _ _ c.look-d.ensures j in
    let da = both bit_xor (λ x. entry_at INV (both_of x)) (λ x. entry_at INVA (low_of x)) v _ _ d a in
    let f = looked INV second_of v _ _ c.look-f.ensures da in
    let fi = both bit_xor (λ x. entry_at INV (second_of x)) high_of v _ _ f i in
    places fourth_of v _ c.fits-y fi refl

pub returns : goal.returns
returns c =
    let v = c.args.y in
    let k = with_splat bit_and (λ x. x) v v 15 c.fits-y.0 (map_id v) in
    let i = with_splat down (λ x. x) v v 4 c.fits-y.0 (map_id v) in
    let a = looked INVA low_of v _ _ c.look-a.ensures k in
    let j = both bit_xor high_of low_of v _ _ i k in
    let b = looked INV high_of v _ _ c.look-b.ensures i in
    let d = looked INV both_of v _ _ c.look-d.ensures j in
    let ba = both bit_xor (λ x. entry_at INV (high_of x)) (λ x. entry_at INVA (low_of x)) v _ _ b a in
    let e = looked INV first_of v _ _ c.look-e.ensures ba in
    let da = both bit_xor (λ x. entry_at INV (both_of x)) (λ x. entry_at INVA (low_of x)) v _ _ d a in
    let f = looked INV second_of v _ _ c.look-f.ensures da in
    let ej = both bit_xor (λ x. entry_at INV (first_of x)) both_of v _ _ e j in
    let g = looked ONE_A third_of v _ _ c.look-g.ensures ej in
    let fi = both bit_xor (λ x. entry_at INV (second_of x)) high_of v _ _ f i in
    let h = looked ONE_B fourth_of v _ _ c.look-h.ensures fi in
    let m = looked TWO_A third_of v _ _ c.look-m.ensures ej in
    let n = looked TWO_B fourth_of v _ _ c.look-n.ensures fi in
    let one = both bit_xor (λ x. entry_at ONE_A (third_of x)) (λ x. entry_at ONE_B (fourth_of x)) v _ _ g h in
    let two = both bit_xor (λ x. entry_at TWO_A (third_of x)) (λ x. entry_at TWO_B (fourth_of x)) v _ _ m n in
    rw (one, two) refl
