use Rattle.std.proofs.Common.{◌≡◌, ◌∙◌, ap, arith}
use Rattle.std.proofs.lemmas.Grind.{common_steps}
use Rattle.ov_chain.specs.Walk.{walked}
use Rattle.ov_chain.proofs.WalkLaws.{walked-true}
use Rattle.ov_chain.proofs.keys.walk.Goals as goal

pub returns-clause-keys : goal.returns-clause-keys
returns-clause-keys c base surface kind start true_ones =
    let end : c.loop-step.key.bytes ≡ walked c.args.root_key.now.bytes c.args.chain.now.steps = grind (arith, common_steps) in
    end ∙ ap (λ k. walked k c.args.chain.now.steps) start ∙ walked-true base surface _ c.args.chain.now.steps true_ones
