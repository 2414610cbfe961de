use Rattle.std.proofs.Common.{◌+◌, sym, ◌∙◌, subst}
use Rattle.std.proofs.lemmas.List.{get_or_default}
use Rattle.ov_index.specs.Orders.{IsBefore, IsOrder, IsSetPlace}
use Rattle.ov_index.proofs.PlaceLaws.{inserted_by_set}
use Rattle.ov_index.proofs.by_set.insert.Goals as goal

pub returns-clause-order : goal.returns-clause-order
returns-clause-order g c =
    let set = c.index-sets-node.is ∙ get_or_default c.args.sets.now c.args.node c.index-sets-node.result 0 c.requires.there in
    let at = subst (λ xs. IsSetPlace c.args.sets.now xs c.index-sets-node.result c.place-first.result) c.deref.ensures.value c.place-first.ensures in
    subst (λ xs. IsOrder (IsBefore c.args.sets.now) (c.args.node + 1) xs) (sym c.insert_within.ensures.items)
    (inserted_by_set c.args.sets.now c.args.order.now.items c.args.node c.place-first.result c.requires.order c.requires.new
    (subst (λ s. IsSetPlace c.args.sets.now c.args.order.now.items s c.place-first.result) set at))
