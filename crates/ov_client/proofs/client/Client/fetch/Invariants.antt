use Rattle.std.proofs.Common.{◌≡◌, ◌≤◌, [], length, take}
use Rattle.ov_client.specs.Reads.{Reaches}
use Rattle.ov_client.specs.Talks.{AsksChain, again}
use Rattle.ov_client.proofs.client.Client.fetch.Given as goal

abbrev pub invariant-loop-n : goal.invariant-loop-n
invariant-loop-n g l = record {
  reaches : Reaches g.P.Peer.tells l.fn.peer l.peer l.self l.file (AsksChain [] 0)
      (again (take l.n l.generations) l.least);
  many : length l.generations ≡ 9;
  same : g.P.Peer.tells.borrow l.peer ≡ g.P.Peer.tells.borrow l.fn.peer;
  later : g.P.Peer.tells.faults l.fn.peer ≤ g.P.Peer.tells.faults l.peer;
}
