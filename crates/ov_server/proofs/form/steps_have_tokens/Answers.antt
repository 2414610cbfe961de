use Rattle.std.proofs.Common.{subst, arith}
use Rattle.std.proofs.lemmas.List.{get_or_default}
use Rattle.std.proofs.lemmas.List.Elements.{recursion_from_All}
use Rattle.ov_fields.specs.Spelling.{IsToken}
use Rattle.ov_tokens.specs.declared.chain.Step.{Step}
use Rattle.ov_server.proofs.Nothing.{no_step}
use Rattle.ov_server.proofs.form.steps_have_tokens.Goals as goal

pub returns : goal.returns
returns c =
    recursion_from_All (λ (s : Step). IsToken s.token) c.args.steps.now
    (λ k d lt.
    subst (λ (s : Step). IsToken s.token) (get_or_default c.args.steps.now k no_step d lt)
    (c.loop-step.invariant k (omega arith)))
