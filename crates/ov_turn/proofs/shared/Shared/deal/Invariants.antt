use Rattle.std.proofs.Common.{◌≡◌, ◌+◌, ◌-◌, ◌<◌, ◌≤◌, [], length}
use Rattle.std.specs.Prelude.{vec_capacity}
use Rattle.ov_turn.specs.Passes.{AreFirst}
use Rattle.ov_turn.specs.Views.{opened}
use Rattle.ov_turn.proofs.shared.Shared.deal.Given as goal

abbrev pub invariant-loop-seat : goal.invariant-loop-seat
invariant-loop-seat g l = record {
  own : l.seat.table_id ≡ l.fn.self.table;
  seat : l.seat.me
      ≡ (
        opened g.A.Answerer.tells l.fn.self.start (length l.list.items)
            l.seat.me.0.parts,
        [],
      );
  parts : length l.list.items + l.seat.me.0.parts ≡ l.fn.passes;
  some : 0 < l.seat.me.0.parts;
  room : l.fn.passes ≤ vec_capacity l.list;
  first : AreFirst g.A.Answerer.tells l.fn.self l.list.items;
}

abbrev pub decreases-loop-seat : goal.decreases-loop-seat
decreases-loop-seat g l = l.fn.passes - length l.list.items
