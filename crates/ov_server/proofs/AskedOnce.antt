-- What a server in this process tells of an ask.
use Rattle.std.proofs.Common.{◌≡◌, ℕ, List, Result, Ok, Err, subst, sym}
use Rattle.std.specs.Prelude.{OnOk}
use Rattle.ov_base.specs.declared.memory.Memory.{Memory}
use Rattle.ov_disk.specs.Tells.{DiskTells}
use Rattle.ov_peer.specs.declared.fault.PeerFault.{PeerFault}
use Rattle.ov_wire.specs.Frames.{IsFrame}
use Rattle.ov_store.specs.Opened.{Opened}
use Rattle.ov_store.specs.Updating.{IsCallOf}
use Rattle.ov_server.specs.Answering.{AnswersOrFails, AsksServer, IsNewFault, LeavesAsked}
use Rattle.ov_server.proofs.Following.{is_frame}

-- of an ask that failed nothing is said here
pub nothing_at : (P : Type 0) (outer : Result (Unit {0}) PeerFault) (why : PeerFault)
    → outer ≡ Err why → OnOk outer P
nothing_at P outer why is =
    subst (λ (r : Result (Unit {0}) PeerFault). OnOk r P) (sym is) tt

module _ {D : Type 0} (tells : DiskTells D)
    (old new : Opened D) (request reply : List ℕ) (inner : Result (Unit {0}) Memory)
    (answer : OnOk inner (AnswersOrFails tells old new request reply))
    (moments : LeavesAsked tells request old new)
    (call : IsCallOf tells old new (IsNewFault old request reply))
    (done : Unit {0}) (inner_is : inner ≡ Ok done)
    (outer : Result (Unit {0}) PeerFault) (last : Unit {0}) (outer_is : outer ≡ Ok last) where
  answers : AnswersOrFails tells old new request reply
  answers =
      subst (λ (r : Result (Unit {0}) Memory). OnOk r (AnswersOrFails tells old new request reply))
      inner_is answer

  pub asked_at : OnOk outer (AsksServer tells old new request reply (Ok tt))
  asked_at =
      subst
      (λ (r : Result (Unit {0}) PeerFault). OnOk r (AsksServer tells old new request reply (Ok tt)))
      (sym outer_is)
      (record { answer = answers; memory = tt; any_moment = moments; call = call })

  pub frame_at : OnOk outer (IsFrame reply)
  frame_at =
      subst (λ (r : Result (Unit {0}) PeerFault). OnOk r (IsFrame reply)) (sym outer_is)
      (is_frame tells old new request reply answers)
