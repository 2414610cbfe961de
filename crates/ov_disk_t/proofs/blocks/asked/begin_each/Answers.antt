use Rattle.std.proofs.Common.{ℕ, rules, tests}
use Rattle.std.proofs.lemmas.Bool.{MatchBool-at_true}
use Rattle.std.proofs.lemmas.Iterator.{cases_from_all, YieldsList-from_slice}
use Rattle.std.proofs.lemmas.List.Elements.{All-from_all_within}
use Rattle.ov_blocks.specs.Extents.{BeginsOne}
use Rattle.ov_disk_t.proofs.blocks.asked.begin_each.Goals as goal

pub returns : goal.returns
returns c told =
    let each = cases_from_all _ _ _ (BeginsOne c.args.extents.now) (λ (n : ℕ). Unit {0}) c.all.ensures.ran (YieldsList-from_slice c.args.blocks.now cc) (λ x q k. search (rules, tests)) (λ x q k. tt) in
    All-from_all_within (BeginsOne c.args.extents.now) c.args.blocks.now (MatchBool-at_true _ _ told each)
