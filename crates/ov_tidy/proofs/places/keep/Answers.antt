use Rattle.std.proofs.Common.{◌≡◌, ◌+◌, ◌++◌, ◌∷◌, ℕ, suc, List, [], arith, rules, subst, sym}
use Rattle.ov_thinning.specs.Thin.{left_out}
use Rattle.ov_tidy.specs.Thins.{AreInOrder}
use Rattle.ov_tidy.proofs.Orders.{more_order, out_order, push_order}
use Rattle.ov_tidy.proofs.places.keep.Goals as goal

pub returns-in-Some-clause-order : goal.returns-in-Some-clause-order
returns-in-Some-clause-order c =
    let old = c.args.kept.now.items in
    subst (λ (ps : List ℕ). AreInOrder 0 (c.args.place + 1) ps) (sym c.leave_out.ensures)
    (more_order 0 c.args.place (c.args.place + 1) (left_out c.in-Some.first old) (omega arith)
    (out_order 0 c.args.place c.in-Some.first old c.requires.order))

pub returns-in-None-clause-order : goal.returns-in-None-clause-order
returns-in-None-clause-order c =
    let old = c.args.kept.now.items in
    let pushed : c.push.new.self.items ≡ old ++ c.args.place ∷ [] = search rules in
    subst (λ (ps : List ℕ). AreInOrder 0 (c.args.place + 1) ps) (sym pushed)
    (more_order 0 (suc c.args.place) (c.args.place + 1) (old ++ c.args.place ∷ []) (omega arith)
    (push_order 0 c.args.place old (omega arith) c.requires.order))
