use Rattle.std.proofs.Common.{◌≡◌, arith, rules}
use Rattle.ov_aes.proofs.Schedule.{key_step}
use Rattle.ov_aes.proofs.key_schedule.unexpanded.Goals as goal

pub loop-n-preserved : goal.loop-n-preserved
loop-n-preserved c =
    let held = c.loop-n.invariant in
    (search rules, key_step c.loop-n.words _ c.loop-n.n c.key_word.result (omega arith) held.1 c.key_word.ensures)

pub returns : goal.returns
returns c =
    let done : c.loop-n.n ≡ 8 = omega arith in
    rw done at c.loop-n.invariant.1
