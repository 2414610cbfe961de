use Rattle.std.proofs.Common.{◌≡◌, ◌≤◌, ◌+◌, ◌++◌, ◌∷◌, [], ap, sym, subst, length, rules, List, ℕ}
use Rattle.std.proofs.lemmas.Result.{on_ok_weaker, IfErr-weaker}
use Rattle.ov_history.specs.Layers.{with_wants}
use Rattle.ov_history.specs.Catalogue.{Nodes}
use Rattle.ov_state.specs.Relistings.{IsFull}
use Rattle.ov_state.proofs.NewSets.{new-few, new-full, new-next, ok-both}
use Rattle.ov_base.specs.declared.limits.TheConstants.{MAX_LAYER_NODES}
use Rattle.ov_state.proofs.new_sets.NewSetsCollector.collect.Goals as goal

pub add-requires : goal.add-requires
add-requires g c =
    let (start, s, wants, done, next) = c.requires.next in
    let few = subst (λ (n : Nodes). length n.sets + length c.args.self.now.sets.items ≤ MAX_LAYER_NODES) next.surface
    (new-few s.surface.sets c.args.self.now.sets.items wants done) in
    (search rules, (search rules, few))

pub returns-clause-ok : goal.returns-clause-ok
returns-clause-ok g c start s wants done next =
    let sets = ap (λ (n : Nodes). n.sets) next.surface in
    let old = c.args.self.now.sets.items in
    let new = c.add.new.self.sets.items in
    on_ok_weaker c.add.result
    (λ both. new-next s.surface.sets wants c.args.want.now old done new
    (subst (λ (sets : List ℕ). sets ++ new ≡ with_wants (sets ++ old) (c.args.want.now ∷ [])) (sym sets) both.0)
    (subst (λ (sets : List ℕ). length sets + length new ≤ MAX_LAYER_NODES) (sym sets) both.1))
    (ok-both _ _ c.add.result c.add.ensures.sets c.add.ensures.few)

pub returns-clause-err : goal.returns-clause-err
returns-clause-err g c start s wants done next =
    let sets = ap (λ (n : Nodes). n.sets) next.surface in
    let old = c.args.self.now.sets.items in
    IfErr-weaker c.add.result _ _
    (λ why full. new-full s.surface.sets wants c.args.want.now old done why
    (subst (λ (sets : List ℕ). IsFull (with_wants (sets ++ old) (c.args.want.now ∷ [])) why) (sym sets) full))
    c.add.ensures.full
