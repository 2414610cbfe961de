use Rattle.std.proofs.Common.{length}
use Rattle.std.specs.Prelude.{All}
use Rattle.ov_turn.specs.Passes.{IsPassOf}
use Rattle.ov_turn.specs.Steps.{IsSeatOf, TakesIn}
use Rattle.ov_turn.proofs.shared.Shared.take_all_in.Given as goal

abbrev pub invariant-loop-pass : goal.invariant-loop-pass
invariant-loop-pass g l = record {
  own : IsSeatOf l.fn.self.table l.seat;
  passes : All (IsPassOf l.fn.self) l.passes.items;
  taken : TakesIn l.fn.seat.me.0 l.fn.passes.items l.passes.items l.seat.me.0;
}

abbrev pub decreases-loop-pass : goal.decreases-loop-pass
decreases-loop-pass g l = length l.passes.items
