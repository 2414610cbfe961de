use Rattle.std.proofs.Common.{◌∙◌, ap, ltb-true, option_map, sym}
use Rattle.std.proofs.lemmas.Bool.{ltb-false}
use Rattle.ov_state.specs.Entries.{plain_rewrite}
use Rattle.ov_recoat.proofs.Finding.{found_at, none_at, other_at}
use Rattle.ov_recoat.proofs.recoat.rewrite_of.Goals as goal

pub returns-in_err-rewrite : goal.returns-in_err-rewrite
returns-in_err-rewrite c =
    ap (option_map (λ r. plain_rewrite r.now)) c.from_residual.ensures
    ∙ sym (none_at c.args.file c.count_before.result c.args.rewrites.now c.requires c.count_before.ensures
    (ltb-false _ _ (sym c.in_err-rewrite.ensures.lookup.0)))

pub returns-then-rewrite-file : goal.returns-then-rewrite-file
returns-then-rewrite-file c =
    let there = c.in_ok-rewrite.ensures.lookup in
    sym (found_at c.args.file c.count_before.result c.args.rewrites.now c.in_ok-rewrite.rewrite.now
    c.count_before.ensures (ltb-true _ _ (sym there.0)) there.1 c.if-rewrite-file.true)

pub returns-else-rewrite-file : goal.returns-else-rewrite-file
returns-else-rewrite-file c =
    let there = c.in_ok-rewrite.ensures.lookup in
    sym (other_at c.args.file c.count_before.result c.args.rewrites.now c.in_ok-rewrite.rewrite.now c.requires
    c.count_before.ensures (ltb-true _ _ (sym there.0)) there.1 c.if-rewrite-file.false)
