use Rattle.std.proofs.Common.{◌≡◌, ◌≤◌, Bool}
use Rattle.ov_protocol.specs.Serving.{Service}
use Rattle.ov_listing.specs.Reasons.{SeesChanges}
use Rattle.ov_listing.specs.Telling.{IsAloneIf}
use Rattle.ov_peer.specs.Alone.{IsAlone}
use Rattle.ov_listing.proofs.Meanwhile.{Meanwhile}
use Rattle.ov_listing.proofs.trying.ask_listing.Given as goal

abbrev pub invariant-loop : goal.invariant-loop
invariant-loop g l = record {
  told : (alone : Bool) (v : Service) → IsAloneIf alone g.P.Peer.tells
      → g.P.Peer.tells.serves l.fn.peer v
      → Meanwhile alone v (g.P.Peer.tells.serves l.peer) (Unit {0});
  first : IsAlone g.P.Peer.tells → (v : Service) → g.P.Peer.tells.serves l.fn.peer v
      → l.counter ≡ 0;
  changes : SeesChanges g.P.Peer.tells l.counter l.fn.peer l.peer;
  same : g.P.Peer.tells.borrow l.peer ≡ g.P.Peer.tells.borrow l.fn.peer;
  later : g.P.Peer.tells.faults l.fn.peer ≤ g.P.Peer.tells.faults l.peer;
}
