use Rattle.std.proofs.Common.{◌≡◌, ◌≢◌, ℕ, ◌+◌, ◌≤◌, List, [], ◌∷◌, ◌++◌, length, Some, sym, ◌∙◌, ap, subst, arith, rules, length-append, true, refl}
use Rattle.std.proofs.lemmas.Result.{err_from_is_err_and}
use Rattle.ov_tokens.specs.declared.token.Token.{Token}
use Rattle.ov_graph.specs.Contents.{plan_of}
use Rattle.ov_graph.specs.declared.cover.Cover.{Cover}
use Rattle.ov_state.specs.Contents.{nodes_of}
use Rattle.ov_state.specs.Relistings.{with_want, nodes_planned, IsFull}
use Rattle.ov_graph.specs.declared.cover.GraphRefusal.{GraphRefusal}
use Rattle.ov_state.proofs.PlannedNodes.{few_before, found_target, new_target, too_many, plan_fault}
use Rattle.ov_state.proofs.new_nodes.NewNodes.node_for.Goals as goal
use Rattle.ov_base.specs.declared.limits.TheConstants.{MAX_LAYER_NODES}

pub plan-requires : goal.plan-requires
plan-requires g c =
    let layer = nodes_of (g.S.Graph.contents c.args.graph.now) in (
      search rules,
      subst (λ (sets : List ℕ). length layer.sets + length sets ≤ MAX_LAYER_NODES) (sym c.deref.ensures.value)
          (few_before c.args.master.now.bytes layer c.args.self.now c.args.set.now c.requires.planned),
    )

pub returns-in_err-cover-clause-err : goal.returns-in_err-cover-clause-err
returns-in_err-cover-clause-err g c =
    let layer = nodes_of (g.S.Graph.contents c.args.graph.now) in
    let old = c.args.self.now in
    let p = err_from_is_err_and c.from_residual.result c.from_residual.ensures.1 in
    let all : List ℕ = (with_want c.args.master.now.bytes (nodes_planned layer old) (Some c.args.set.now)).sets in
    rw p.1 (subst (λ (why : GraphRefusal). IsFull all why) (sym p.2)
    (plan_fault c.in_err-cover.field-0.0 all (λ e.
    let full = c.plan.ensures.full.0 (cc (c.in_err-cover.was, e)) in
    let value = c.deref.ensures.value in
    too_many c.args.master.now.bytes layer old c.args.set.now c.requires.planned (plan_of (layer.sets ++ old.sets.items) c.args.set.now) refl
    (subst (λ (sets : List ℕ). (plan_of (layer.sets ++ sets) c.args.set.now).fresh ≡ true) value full.1)
    (subst (λ (sets : List ℕ). length (layer.sets ++ sets) ≡ MAX_LAYER_NODES) value full.0))))

pub returns-in_ok-push-clause-ok : goal.returns-in_ok-push-clause-ok
returns-in_ok-push-clause-ok g c =
    let layer = nodes_of (g.S.Graph.contents c.args.graph.now) in
    let old = c.args.self.now in
    let cover = c.in_ok-cover.cover in
    let value = c.deref.ensures.value in
    let is : cover ≡ plan_of (layer.sets ++ old.sets.items) c.args.set.now =
    c.in_ok-cover.ensures.cover ∙ ap (λ (sets : List ℕ). plan_of (layer.sets ++ sets) c.args.set.now) value in
    let fresh : cover.fresh ≡ true = c.if-cover.true in
    let other : length (layer.sets ++ old.sets.items) ≢ MAX_LAYER_NODES = λ e.
    let full = c.in_ok-cover.ensures.full.1 (
      subst (λ (sets : List ℕ). length (layer.sets ++ sets) ≡ MAX_LAYER_NODES) (sym value) e,
      ap (λ (c : Cover). c.fresh) (sym c.in_ok-cover.ensures.cover) ∙ fresh,
    ) in cc in
    let most = few_before c.args.master.now.bytes layer old c.args.set.now c.requires.planned in
    new_target c.args.master.now.bytes layer old c.args.set.now c.requires.planned c.push.new.self cover is fresh
    (omega (arith, other, most, length-append layer.sets old.sets.items)) c.requires.rooted
    (c.in_ok-push.ensures.nodes ∙ ap (λ (tokens : List Token). old.nodes.items ++ record { set = c.args.set.now; cover = cover; tokens = tokens } ∷ []) c.in_ok-tokens.ensures)
    c.in_ok-push.ensures.sets

pub returns-else-cover-clause-ok : goal.returns-else-cover-clause-ok
returns-else-cover-clause-ok g c =
    let layer = nodes_of (g.S.Graph.contents c.args.graph.now) in
    let old = c.args.self.now in
    found_target c.args.master.now.bytes layer old c.args.set.now c.requires.planned c.in_ok-cover.cover
    (c.in_ok-cover.ensures.cover ∙ ap (λ (sets : List ℕ). plan_of (layer.sets ++ sets) c.args.set.now) c.deref.ensures.value)
    c.if-cover.false
