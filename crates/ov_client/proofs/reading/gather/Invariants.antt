use Rattle.std.proofs.Common.{◌≡◌, ◌≤◌, ◌-◌, ℕ, List, length}
use Rattle.ov_client.specs.Readers.{Reader}
use Rattle.ov_client.proofs.Gathering.{Gathers}
use Rattle.ov_client.proofs.reading.gather.Given as goal

abbrev pub invariant-loop-alloc : goal.invariant-loop-alloc
invariant-loop-alloc g l = record {
  gathers : (r : Reader) (file tries : List ℕ)
      → Gathers g.P.Peer.tells r file l.fn.peer l.peer tries l.chained l.keys
      l.plain.items;
  few : length l.plain.items ≤ l.chained.length;
  same : g.P.Peer.tells.borrow l.peer ≡ g.P.Peer.tells.borrow l.fn.peer;
  later : g.P.Peer.tells.faults l.fn.peer ≤ g.P.Peer.tells.faults l.peer;
}

abbrev pub decreases-loop-alloc : goal.decreases-loop-alloc
decreases-loop-alloc g l = l.chained.length - length l.plain.items
