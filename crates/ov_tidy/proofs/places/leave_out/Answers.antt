use Rattle.std.proofs.Common.{◌≡◌, ℕ, List, Ok, Err, arith, ap, sym, subst, ◌∙◌, ⊎_elim}
use Rattle.std.specs.Prelude.{remove}
use Rattle.std.proofs.lemmas.Bool.{cases_lt}
use Rattle.std.proofs.lemmas.List.Sorted.{searched}
use Rattle.ov_thinning.specs.Thin.{left_out}
use Rattle.ov_tidy.specs.Thins.{AreInOrder}
use Rattle.ov_tidy.proofs.Orders.{not_there, removed, rises}
use Rattle.ov_tidy.proofs.places.leave_out.Goals as goal

pub returns-in-Ok : goal.returns-in-Ok
returns-in-Ok c =
    let kept = c.args.kept.now.items in
    let here = c.deref.result.now in
    let same : here ≡ kept = c.deref.ensures.value in
    let order = subst (λ (ps : List ℕ). AreInOrder 0 c.args.limit ps) (sym same) c.requires in
    let found = searched here c.args.place (Ok c.in-Ok.at) c.in-Ok.ensures.position
    (λ i j le low. rises 0 c.args.limit here i j order le low) in
    c.remove.ensures.items
    ∙ ap (λ (ps : List ℕ). remove ps c.in-Ok.at) (sym same)
    ∙ removed 0 c.args.limit c.args.place here c.in-Ok.at order found.0 found.1
    ∙ ap (λ (ps : List ℕ). left_out c.args.place ps) same

pub returns-in-Err : goal.returns-in-Err
returns-in-Err c =
    let kept = c.args.kept.now.items in
    let here = c.deref.result.now in
    let same : here ≡ kept = c.deref.ensures.value in
    let order = subst (λ (ps : List ℕ). AreInOrder 0 c.args.limit ps) (sym same) c.requires in
    let gap = searched here c.args.place (Err c.in-Err.field-0) c.in-Err.ensures.position
    (λ i j le low. rises 0 c.args.limit here i j order le low) in
    sym same
    ∙ not_there c.args.place here (λ k inside is. ⊎_elim
    (λ less. absurd (omega (arith, is, gap.1 k less)))
    (λ from. absurd (omega (arith, is, gap.2 k from inside)))
    (cases_lt k c.in-Err.field-0))
    ∙ ap (λ (ps : List ℕ). left_out c.args.place ps) same
