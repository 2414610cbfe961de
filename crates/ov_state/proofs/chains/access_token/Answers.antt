use Rattle.std.proofs.Common.{List, subst}
use Rattle.std.specs.Prelude.{Contains}
use Rattle.std.proofs.lemmas.List.{at_drop_all}
use Rattle.ov_graph.proofs.ListLaws.{Contains-none}
use Rattle.ov_base_layer.specs.Holders.{Access, accesses_of}
use Rattle.ov_state.proofs.ChainLaws.{not_of_user, not_to_node}
use Rattle.ov_state.proofs.chains.access_token.Goals as goal
use Rattle.ov_state.proofs.chains.access_token.Goals.{else-grant-user-via-then-grant-user+else-grant-node, else-grant-user-via-else-grant-user}

pub unreachable-requires : goal.unreachable-requires
unreachable-requires c =
    let wanted : Access = record { user = c.args.user; node = c.args.node } in
    Contains-none wanted
    (subst (λ (left : List Access). Contains left wanted)
    (at_drop_all accesses_of c.args.grants.now c.loop-grant.grant-index c.loop-grant-test.false) c.loop-grant.invariant)

pub loop-grant-preserved : goal.loop-grant-preserved
loop-grant-preserved c = elim c.else-grant-user.branch [
  | else-grant-user-via-then-grant-user+else-grant-node w ↦
      not_to_node c.args.grants.now c.loop-grant.grant-index _ c.loop-grant-test.true c.args.user c.args.node
      c.loop-grant.invariant w.if-grant-node.false
  | else-grant-user-via-else-grant-user w ↦
      not_of_user c.args.grants.now c.loop-grant.grant-index _ c.loop-grant-test.true c.args.user c.args.node
      c.loop-grant.invariant w.if-grant-user.false
]
