use Rattle.std.proofs.Common.{List, ap, arith, ◌∙◌, ◌-◌, length}
use Rattle.ov_tokens.specs.declared.chain.Step.{Step}
use Rattle.ov_tokens.specs.declared.label.Kind.TheVariants.{Derive}
use Rattle.ov_tokens.specs.declared.label.Label.{Label}
use Rattle.ov_tokens.specs.Labels.{label_of}
use Rattle.ov_chain.specs.Walk.{last_label}
use Rattle.ov_chain.proofs.WalkLaws.{last_is}
use Rattle.ov_chain.proofs.keys.last_kind.Goals as goal

pub returns-in-len1-up : goal.returns-in-len1-up
returns-in-len1-up c =
    let from : Label = label_of Derive c.args.chain.now.root in
    ap (λ (l : Label). l.kind) (last_is from c.as_slice.result.now (length c.as_slice.result.now - 1) _ (omega (arith, c.in-len1-up.len_at_least)))
    ∙ ap (λ (s : List Step). (last_label from s).kind) c.as_slice.ensures
