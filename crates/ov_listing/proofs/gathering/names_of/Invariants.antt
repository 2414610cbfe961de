use Rattle.std.proofs.Common.{◌≡◌, ◌≤◌, Bool}
use Rattle.ov_protocol.specs.Serving.{Service}
use Rattle.ov_listing.specs.Questions.{part_number}
use Rattle.ov_listing.specs.Reasons.{HasLastPage}
use Rattle.ov_listing.specs.Telling.{IsAloneIf}
use Rattle.ov_listing.proofs.AllOfThem.{AreFirst}
use Rattle.ov_listing.proofs.Meanwhile.{Meanwhile}
use Rattle.ov_listing.proofs.gathering.names_of.Given as goal

abbrev pub invariant-loop-number : goal.invariant-loop-number
invariant-loop-number g l = record {
  told : (alone : Bool) (v : Service) → IsAloneIf alone g.P.Peer.tells
      → g.P.Peer.tells.serves l.fn.peer v
      → Meanwhile alone v (g.P.Peer.tells.serves l.peer) (AreFirst l.part l.number l.names.items v);
  page : HasLastPage g.P.Peer.tells (part_number l.part) l.number l.peer;
  same : g.P.Peer.tells.borrow l.peer ≡ g.P.Peer.tells.borrow l.fn.peer;
  later : g.P.Peer.tells.faults l.fn.peer ≤ g.P.Peer.tells.faults l.peer;
}
