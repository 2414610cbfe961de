use Rattle.std.proofs.Common.{◌≡◌, rules, arith, ◌∙◌, ap}
use Rattle.ov_aes.specs.Cipher.{cipher, full_round, rounds}
use Rattle.ov_aes.proofs.OneRound.{one_more}
use Rattle.ov_aes.proofs.rounds.encrypt.Goals as goal

pub loop-round-init : goal.loop-round-init
unfolding rounds
loop-round-init c = search rules

pub loop-round-preserved : goal.loop-round-preserved
loop-round-preserved c =
    c.full_round-next.ensures
    ∙ ap (λ s. full_round s c.args.w.now c.loop-round.round) c.loop-round.invariant
    ∙ one_more c.args.w.now c.args.input.now c.loop-round.round (omega arith)

pub returns : goal.returns
unfolding cipher
returns c =
    let done : c.loop-round.round ≡ 14 = omega arith in
    let held = c.loop-round.invariant in
    let last = rw done at held in
    rw (← last) (search rules)
