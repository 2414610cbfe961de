use Rattle.std.proofs.Common.{◌∙◌, ap}
use Rattle.ov_base.specs.Sets.{empty, single, with}
use Rattle.ov_base.proofs.SetLaws.{union-empty, union_comm}
use Rattle.ov_graph.proofs.roots.alone.Goals as goal

pub returns : goal.returns
returns g c =
    c.with.ensures ∙ ap (λ s. with s c.args.user) c.empty.ensures
    ∙ union_comm empty (single c.args.user) ∙ union-empty (single c.args.user)
