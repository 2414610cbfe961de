use Rattle.std.proofs.Common.{arith}
use Rattle.ov_history_t.proofs.premises.places_in_a_range_are_its_own.Goals as goal

pub returns-clause-blocks : goal.returns-clause-blocks
returns-clause-blocks c = λ first length k low. (omega arith, omega (arith, low))

pub returns-clause-places : goal.returns-clause-places
returns-clause-places c = λ first before n behind.
    record { begins = omega arith; ends = omega arith }
