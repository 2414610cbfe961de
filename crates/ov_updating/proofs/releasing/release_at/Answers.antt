use Rattle.std.proofs.Common.{List, ℕ, arith, subst, sym}
use Rattle.std.specs.Prelude.{All}
use Rattle.std.specs.List.Sorted.{IsStrictlyIncreasing}
use Rattle.ov_blocks.specs.Extents.{BeginsOne}
use Rattle.ov_updating.proofs.Removing.{all_begin, ends_no_later, given_none, given_one, one_rises}
use Rattle.ov_updating.proofs.releasing.release_at.Goals as goal

pub release_all-requires-clause-rise : goal.release_all-requires-clause-rise
release_all-requires-clause-rise c =
    subst IsStrictlyIncreasing (sym c.from_ref.ensures.value) (one_rises c.in-Some.first)

pub release_all-requires-clause-held : goal.release_all-requires-clause-held
release_all-requires-clause-held c =
    subst (λ (blocks : List ℕ). All (BeginsOne c.args.extents.now) blocks) (sym c.from_ref.ensures.value)
    (all_begin c.args.extents.now c.args.first c.in-Some.first c.in-Some.is c.requires)

pub returns-in-Some-clause-given : goal.returns-in-Some-clause-given
returns-in-Some-clause-given c =
    given_one c.args.first c.in-Some.first c.from_ref.result.now c.args.extents.now c.release_all.new.self
    c.in-Some.is c.from_ref.ensures.value c.release_all.ensures

pub returns-in-Some-clause-few : goal.returns-in-Some-clause-few
returns-in-Some-clause-few c = omega (arith, c.release_all.ensures.many)

pub returns-in-Some-clause-ends : goal.returns-in-Some-clause-ends
returns-in-Some-clause-ends c =
    ends_no_later c.from_ref.result.now c.args.extents.now c.release_all.new.self c.known.ensures.order
    c.release_all.ensures

pub returns-in-None-clause-given : goal.returns-in-None-clause-given
returns-in-None-clause-given c = given_none c.args.first c.args.extents.now c.in-None.is
