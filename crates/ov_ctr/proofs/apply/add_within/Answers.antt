use Rattle.std.proofs.Common.{◌≡◌, ◌∙◌, arith, drop, length, length-take, refl, take}
use Rattle.std.proofs.lemmas.List.{get_or-take, get_or_append_left}
use Rattle.ov_ctr.proofs.apply.add_within.Goals as goal

pub returns-clause-added : goal.returns-clause-added
returns-clause-added c i lt =
    let old = c.args.rest.now in
    let n = c.min-count.result in
    let new = c.add_pad.new.piece in
    let count : n ≡ _ = c.min-count.ensures in
    let given : length (take n old) ≡ n = simp length-take (omega (arith, count)) in
    let long : length new ≡ n = c.add_pad.auto.piece ∙ given in
    let from = get_or-take n old i 0 lt in
    get_or_append_left new (drop n old) 0 i (omega (arith, long)) ∙ c.add_pad.ensures i (omega (arith, given)) ∙ rw from refl
