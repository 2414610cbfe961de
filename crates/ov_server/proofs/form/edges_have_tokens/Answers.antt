use Rattle.std.proofs.Common.{subst, arith}
use Rattle.std.proofs.lemmas.List.{get_or_default}
use Rattle.std.proofs.lemmas.List.Elements.{recursion_from_All}
use Rattle.ov_fields.specs.Spelling.{IsToken}
use Rattle.ov_tokens.specs.declared.edge.Edge.{Edge}
use Rattle.ov_server.proofs.Nothing.{no_edge}
use Rattle.ov_server.proofs.form.edges_have_tokens.Goals as goal

pub returns : goal.returns
returns c =
    recursion_from_All (λ (e : Edge). IsToken e.token) c.args.edges.now
    (λ k d lt.
    subst (λ (e : Edge). IsToken e.token) (get_or_default c.args.edges.now k no_edge d lt)
    (c.loop-edge.invariant k (omega arith)))
