use Rattle.std.proofs.Common.{◌≡◌, drop, sym, subst, arith}
use Rattle.ov_blocks.specs.Extents.{AreApart, IsFree}
use Rattle.ov_blocks.proofs.Lowest.{lowest_in, free, lowest}
use Rattle.ov_blocks.proofs.Fronts.{found_behind, none_before, rest_apart, rest_whole}
use Rattle.ov_blocks.proofs.free.lowest_run.Goals as goal

pub passed-start-requires-clause-none : goal.passed-start-requires-clause-none
passed-start-requires-clause-none c =
    none_before c.args.held.now c.args.from c.count_before.result c.args.blocks c.requires.apart c.count_before.ensures c.requires.none

pub lowest_behind-requires : goal.lowest_behind-requires
lowest_behind-requires c =
    let start = c.passed-start.result in
    subst (AreApart c.end_before.result) (sym (rest_whole c.args.held.now start))
    (subst (λ n. AreApart n (drop start c.args.held.now)) (sym c.end_before.ensures) (rest_apart 0 c.args.held.now start c.requires.apart c.passed-start.ensures.inside))

at_lowest : (c : goal.After-lowest_behind) → c.lowest_behind.result ≡ lowest_in 0 c.args.blocks c.args.held.now
at_lowest c =
    let start = c.passed-start.result in
    found_behind c.args.held.now start c.args.blocks c.lowest_behind.result c.requires.apart c.passed-start.ensures.none
    (omega (arith, c.lowest_behind.ensures.behind, c.end_before.ensures))
    (subst (λ l. IsFree c.lowest_behind.result c.args.blocks l) (rest_whole c.args.held.now start) c.lowest_behind.ensures.free)
    (λ first ge lt is. c.lowest_behind.ensures.lowest first (omega (arith, ge, c.end_before.ensures)) lt
    (subst (λ l. IsFree first c.args.blocks l) (sym (rest_whole c.args.held.now start)) is))

pub returns : goal.returns
returns c = record {
  free = subst (λ n. IsFree n c.args.blocks c.args.held.now) (sym (at_lowest c)) (free 0 c.args.blocks c.args.held.now c.requires.apart);
  lower = λ other lt. lowest 0 c.args.blocks c.args.held.now other (omega arith) (omega (arith, lt, at_lowest c));
}
