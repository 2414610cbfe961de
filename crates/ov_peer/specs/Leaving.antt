-- Inner: no public contract needs this. What a traced peer serves after a failed ask, which is what
-- its peer serves.
use Rattle.std.specs.Prelude.{◌≡◌, ℕ, List, [], Option}
use Rattle.std.proofs.Common.{◌∙◌, inl, inr, refl, subst, sym}
use Rattle.ov_record.specs.Updates.{SealedUpdate}
use Rattle.ov_protocol.specs.Serving.{Service, later}
use Rattle.ov_protocol.specs.Replies.{MayMake}
use Rattle.ov_protocol.proofs.Leaving.{later-nil, replies_may_make}
use Rattle.ov_peer.specs.Tells.{IsReplyAt, LeavesTold, PeerTells}
use Rattle.ov_peer.specs.Tracing.{TracesFault, unanswered, unasked, unput}

-- what a reply made is nothing, or what was asked for
pub reply_makes : (v : Service) (request reply : List ℕ) (made : List SealedUpdate)
    → IsReplyAt v request reply made → MayMake request made
reply_makes v request reply made (inl replies) = replies_may_make _ request reply made replies
reply_makes v request reply made (inr failed) = failed.makes

-- nothing happened
nothing_left : {P : Type 0} (peer : PeerTells P) (p q : P) (request : List ℕ)
    (v : Service) → q ≡ p → peer.serves p v → LeavesTold v request (peer.serves q)
nothing_left peer p q request v same is =
    let still : later (later v []) [] ≡ v = later-nil (later v []) ∙ later-nil v in (
      [],
      [],
      inl refl,
      subst (λ r. peer.serves r (later (later v []) [])) (sym same)
          (subst (peer.serves p) (sym still) is),
    )

-- a traced peer leaves what its peer leaves
pub fault_leaves : {P : Type 0} (peer : PeerTells P) (p q : P) (was now : Option (List ℕ))
    (request : List ℕ) (v : Service)
    → TracesFault peer p q was now request → peer.serves p v
    → LeavesTold v request (peer.serves q)
fault_leaves peer p q was now request v (unasked same n put) is =
    nothing_left peer p q request v same is
fault_leaves peer p q was now request v (unanswered fault put) is =
    peer.left p q request v fault is
fault_leaves peer p q was now request v (unput reply n answered put) is =
    let (others, made, at_it, then) = peer.told p q request reply v answered is in
    (others, made, reply_makes (later v others) request reply made at_it, then)
