use Rattle.std.proofs.Common.{◌≡◌, ◌≤◌, length, take}
use Rattle.ov_owner.specs.Calls.{Passes}
use Rattle.ov_owner.specs.Talks.{again, start}
use Rattle.ov_owner.specs.declared.limits.TheConstants.{MAX_TRIES}
use Rattle.ov_owner.specs.Changes.{errand_of}
use Rattle.ov_owner.proofs.settling.settle.Given as goal

abbrev pub invariant-loop-i : goal.invariant-loop-i
invariant-loop-i g l = record {
  so_far : Passes g.P.Peer.tells l.surface.bytes (errand_of l.base.bytes l.change) start l.initial.peer
      (again (take l.i l.epochs) l.least) l.peer;
  all : length l.epochs ≡ MAX_TRIES;
  same : g.P.Peer.tells.borrow l.peer ≡ g.P.Peer.tells.borrow l.initial.peer;
  later : g.P.Peer.tells.faults l.initial.peer ≤ g.P.Peer.tells.faults l.peer;
}
