use Rattle.std.proofs.Common.{◌≡◌, ◌-◌, ◌<◌, ℕ, suc, length, take, ap, arith}
use Rattle.ov_blocks.specs.Extents.{end_from}
use Rattle.ov_blocks.proofs.Fronts.{end_at}
use Rattle.ov_blocks.proofs.Places.{one}
use Rattle.ov_blocks.proofs.free.end_before.Goals as goal

pub overflow_add-result : goal.overflow_add-result
overflow_add-result c =
    let here = one 0 c.args.held.now (c.args.place - 1) (record { first = 0; length = 0 }) c.requires.apart (omega (arith, c.requires.inside)) in
    omega (arith, here.ends)

pub returns : goal.returns
returns c =
    let k = c.args.place - 1 in
    let inside : k < length c.args.held.now = omega (arith, c.requires.inside) in
    let next : suc k ≡ c.args.place = omega arith in
    omega (arith, end_at 0 c.args.held.now k (record { first = 0; length = 0 }) inside, ap (λ (n : ℕ). end_from 0 (take n c.args.held.now)) next)
