use Rattle.std.proofs.Common.{◌≡◌, ◌<◌, ◌^◌, take}
use Rattle.std.specs.Prelude.{None}
use Rattle.ov_journal.specs.Runs.{end_from}
use Rattle.ov_placed.specs.Replaying.{IsReplayOf}
use Rattle.ov_placed_t.proofs.replaying.replay_all.Given as goal

abbrev pub invariant-loop-body : goal.invariant-loop-body
invariant-loop-body l = record {
  replay : IsReplayOf l.surface.bytes l.fn.mode l.first l.blocks None (take l.body-index l.bodies)
      l.replayed;
  gate : end_from 78 l.bodies < 2 ^ 64 → l.gate ≡ end_from 78 (take l.body-index l.bodies);
}
