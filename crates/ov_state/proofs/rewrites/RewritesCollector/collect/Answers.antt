use Rattle.std.proofs.Common.{ℕ, List, [], ◌∷◌, ◌++◌, ◌∙◌, ap, subst, sym, rules}
use Rattle.std.proofs.lemmas.Result.{err_from_is_err_and}
use Rattle.ov_graph.specs.declared.cover.GraphRefusal.{GraphRefusal}
use Rattle.ov_history.specs.Layers.{with_wants}
use Rattle.ov_history.specs.Catalogue.{Nodes}
use Rattle.ov_state.specs.declared.rewrites.Rewrites.{Rewrites}
use Rattle.ov_state.specs.Relistings.{nodes_planned, with_rewrite, with_want, ArePlanned, IsFull, IsSurfaceFor}
use Rattle.ov_state.proofs.SettledFiles.{full-next_file, settled-next_file}
use Rattle.ov_state.proofs.rewrites.RewritesCollector.collect.Goals as goal

pub surface_for-requires : goal.surface_for-requires
surface_for-requires g c =
    let (start, s, wants, done, next) = c.requires.next in
    let planned = subst (λ (n : Nodes). ArePlanned n.sets c.args.self.now.nodes) next.surface done.0.planned in
    (search rules, (search rules, (planned, c.requires.rooted)))

pub returns-in_err-to-clause-err : goal.returns-in_err-to-clause-err
returns-in_err-to-clause-err g c start s wants done next =
    let plan = c.args.self.now in
    let all : List ℕ = with_wants s.surface.sets (wants ++ c.args.want.now ∷ []) in
    let full = subst (λ (n : Nodes). IsFull (with_want plan.master.now.bytes (nodes_planned n plan.nodes) c.args.want.now).sets c.in_err-to.field-0.0)
    (sym next.surface) c.in_err-to.ensures.err in
    let p = err_from_is_err_and c.from_residual.result c.from_residual.ensures.1 in
    rw p.1 (subst (λ (why : GraphRefusal). IsFull all why) (sym p.2)
    (full-next_file plan.master.now.bytes s wants c.args.want.now c.args.file c.args.entry.now next.number next.kept plan c.in_err-to.field-0.0 done.0 full))

pub returns-clause-ok : goal.returns-clause-ok
returns-clause-ok g c start s wants done next =
    let plan = c.args.self.now in
    let new : Rewrites g.row.W = record { alloc = plan.alloc; master = plan.master; nodes = c.surface_for.new.self; list = c.push.new.rewrites } in
    let to = subst (λ (n : Nodes). IsSurfaceFor plan.master.now.bytes n c.args.want.now plan.nodes c.surface_for.new.self c.in_ok-to.to)
    (sym next.surface) c.in_ok-to.ensures.ok in
    let list = c.in_ok-push.ensures ∙ ap (with_rewrite plan.list.items) c.rewrite_for.ensures in (
      settled-next_file plan.master.now.bytes s wants c.args.want.now c.args.file c.args.entry.now next.number next.kept plan new done.0
          (record { to = c.in_ok-to.to; surface = to; rewrites = list }),
      done.1,
    )
