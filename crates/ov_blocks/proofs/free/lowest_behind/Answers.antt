use Rattle.std.proofs.Common.{◌≡◌, ◌+◌, drop, sym, ◌∙◌, subst, arith}
use Rattle.std.proofs.lemmas.List.{at_drop_all}
use Rattle.ov_blocks.specs.Extents.{IsFree}
use Rattle.ov_blocks.proofs.Lowest.{lowest_in, apart_at, stops, goes_on, free, least, lowest, within}
use Rattle.ov_blocks.proofs.free.lowest_behind.Goals as goal

-- where the walk stops it is at the lowest run
at_lowest : (c : goal.Then-extent-first) → c.loop-extent.first ≡ lowest_in c.args.from c.args.blocks c.args.held.now
at_lowest c =
    let i = c.loop-extent.extent-index in
    let here = apart_at c.args.held.now i c.loop-extent.first c.args.blocks (record { first = 0; length = 0 }) (omega arith) c.loop-extent.invariant.apart in
    sym (stops c.args.held.now i c.loop-extent.first c.args.blocks (record { first = 0; length = 0 }) (omega arith) (omega (arith, here.0))) ∙ c.loop-extent.invariant.lowest

at_end : (c : goal.After-loop-extent) → c.loop-extent.first ≡ lowest_in c.args.from c.args.blocks c.args.held.now
at_end c =
    let i = c.loop-extent.extent-index in
    sym (at_drop_all (lowest_in c.loop-extent.first c.args.blocks) c.args.held.now i (omega arith)) ∙ c.loop-extent.invariant.lowest

pub returns-then-extent-first-clause-behind : goal.returns-then-extent-first-clause-behind
returns-then-extent-first-clause-behind c =
    let first = at_lowest c in
    omega (arith, first, least c.args.from c.args.blocks c.args.held.now c.requires)

pub returns-then-extent-first-clause-free : goal.returns-then-extent-first-clause-free
returns-then-extent-first-clause-free c = subst (λ n. IsFree n c.args.blocks c.args.held.now) (sym (at_lowest c)) (free c.args.from c.args.blocks c.args.held.now c.requires)

pub returns-then-extent-first-clause-lowest : goal.returns-then-extent-first-clause-lowest
returns-then-extent-first-clause-lowest c first ge lt = lowest c.args.from c.args.blocks c.args.held.now first ge (omega (arith, lt, at_lowest c))

pub overflow_add-first : goal.overflow_add-first
overflow_add-first c =
    let i = c.loop-extent.extent-index in
    let here = apart_at c.args.held.now i c.loop-extent.first c.args.blocks (record { first = 0; length = 0 }) (omega arith) c.loop-extent.invariant.apart in
    let inside = within _ (drop (i + 1) c.args.held.now) here.2 in
    omega (arith, inside)

pub loop-extent-preserved : goal.loop-extent-preserved
loop-extent-preserved c =
    let i = c.loop-extent.extent-index in
    let here = apart_at c.args.held.now i c.loop-extent.first c.args.blocks (record { first = 0; length = 0 }) (omega arith) c.loop-extent.invariant.apart in
    let next = goes_on c.args.held.now i c.loop-extent.first c.args.blocks (record { first = 0; length = 0 }) (omega arith) (omega (arith, here.0)) in
    record { apart = here.2; lowest = sym next ∙ c.loop-extent.invariant.lowest }

pub returns-clause-behind : goal.returns-clause-behind
returns-clause-behind c =
    let first = at_end c in
    omega (arith, first, least c.args.from c.args.blocks c.args.held.now c.requires)

pub returns-clause-free : goal.returns-clause-free
returns-clause-free c = subst (λ n. IsFree n c.args.blocks c.args.held.now) (sym (at_end c)) (free c.args.from c.args.blocks c.args.held.now c.requires)

pub returns-clause-lowest : goal.returns-clause-lowest
returns-clause-lowest c first ge lt = lowest c.args.from c.args.blocks c.args.held.now first ge (omega (arith, lt, at_end c))
