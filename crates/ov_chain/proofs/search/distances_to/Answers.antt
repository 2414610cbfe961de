use Rattle.std.proofs.Common.{ℕ, ◌≡◌, ◌∙◌, ◌++◌, List, Bool, Option, length, take, drop, arith, sym, subst}
use Rattle.std.proofs.lemmas.Grind.{common_steps}
use Rattle.ov_chain.specs.Distances.{AreFound, MarkedAreFound}
use Rattle.ov_chain.specs.Marks.{IsClosed}
use Rattle.ov_chain.proofs.WayBack.{are_found}
use Rattle.ov_chain.proofs.search.distances_to.Goals as goal

written : {X : Type 0} (items new : List X) (many : ℕ) → length new ≡ many → take many (new ++ drop (length new) items) ≡ new
written items new many long = grind (arith, common_steps)

pub measure-requires-clause-closed : goal.measure-requires-clause-closed
measure-requires-clause-closed g c =
    let same : c.deref.result.now ≡ c.mark_ancestors.new.marks = grind (arith, common_steps) in
    subst (IsClosed _) (sym same) c.mark_ancestors.ensures.closed

pub returns-clause-found : goal.returns-clause-found
returns-clause-found g c =
    let sets = (g.G.Graph.contents c.args.graph.now).sets in
    let marks = c.mark_ancestors.new.marks in
    let ds = c.measure.new.distances in
    let all_marks : length marks ≡ c.in_ok-marks.marks.len = omega arith in
    let all : length ds ≡ c.in_ok-distances.distances.len = omega arith in
    let read : c.deref.result.now ≡ marks = c.deref.ensures.value ∙ written c.in_ok-marks.marks.items marks c.in_ok-marks.marks.len all_marks in
    let found = subst (λ (m : List Bool). MarkedAreFound sets c.args.root m ds) read c.measure.ensures in
    subst (λ (d : List (Option ℕ)). AreFound sets c.args.root c.args.node d) (sym (written c.in_ok-distances.distances.items ds c.in_ok-distances.distances.len all))
    (are_found sets c.args.root c.args.node marks ds c.mark_ancestors.ensures.closed c.mark_ancestors.ensures.node found)
