use Rattle.std.proofs.Common.{true, ◌≡◌, ◌∙◌, ℕ, Option, Ok, None, refl, arith, subst}
use Rattle.ov_protocol.specs.Serving.{Service, later}
use Rattle.ov_listing.specs.Causes.{IsOneTry}
use Rattle.ov_listing.specs.Listings.{IsListingAt}
use Rattle.ov_listing.specs.Questions.{IsTryAt}
use Rattle.ov_listing.specs.Telling.{Told}
use Rattle.ov_listing.specs.declared.listing.Listing.{Listing}
use Rattle.ov_listing.proofs.Meanwhile.{also, at_first, behind, of_one, told_behind}
use Rattle.ov_listing.proofs.Settling.{one_settled}
use Rattle.ov_listing.proofs.trying.ask_listing.Goals as goal
use Rattle.ov_listing.specs.Reasons.{IsNoneByChange, SeesChanges}
use Rattle.ov_listing.proofs.Blaming.{blames_none, one_change}

pub loop-init : goal.loop-init
loop-init g c = record {
  told = λ alone v is_alone serves.
      at_first alone v (g.P.Peer.tells.serves c.args.peer.now) (Unit {0}) serves tt;
  first = λ is_alone v serves. refl;
  changes = refl;
  same = refl;
  later = omega arith;
}

pub returns-in-Ok-Some-clause-told : goal.returns-in-Ok-Some-clause-told
returns-in-Ok-Some-clause-told g c = λ alone v is_alone serves.
    let peer = g.P.Peer.tells in
    let Then = peer.serves c.try_once.new.peer in
    told_behind alone v (peer.serves c.loop.peer) Then (Unit {0}) (IsListingAt c.args.wanted)
    c.in-Ok-Some.listing
    (c.loop.invariant.told alone v is_alone serves)
    (λ w mid.
    subst (λ (found : Option Listing). Told alone w Then (IsTryAt c.args.wanted) (Ok found))
    c.in-Ok-Some.field-0-is
    (c.in-Ok-Some.ensures.told alone w is_alone mid))

pub loop-preserved : goal.loop-preserved
loop-preserved g c =
    let peer = g.P.Peer.tells in
    let Then = peer.serves c.try_once.new.peer in
    record {
      told = λ alone v is_alone serves.
          also alone v Then (Unit {0} × Unit {0}) (Unit {0})
          (behind alone v (peer.serves c.loop.peer) Then (Unit {0}) (λ (w : Service). Unit {0})
          (c.loop.invariant.told alone v is_alone serves)
          (λ w mid.
          of_one alone w Then (IsTryAt c.args.wanted) None
          (subst (λ (found : Option Listing). Told alone w Then (IsTryAt c.args.wanted) (Ok found))
          c.in-Ok-None.field-0-is
          (c.in-Ok-None.ensures.told alone w is_alone mid))))
          (λ both. tt);
      first = λ is_alone v serves.
          let (others, none, mid, holds) = c.loop.invariant.told true v is_alone serves in
          absurd (
          subst (λ (found : Option Listing). IsOneTry {T = Listing} (Ok found)) c.in-Ok-None.field-0-is
          (c.in-Ok-None.ensures.once is_alone (later v others) mid)
          );
      changes = one_change peer c.loop.counter c.args.peer.now c.loop.peer c.try_once.new.peer
          c.loop.invariant.changes
          (subst (IsNoneByChange peer c.loop.peer c.try_once.new.peer) c.in-Ok-None.field-0-is
          c.in-Ok-None.ensures.changed);
      same = c.try_once.ensures.same ∙ c.loop.invariant.same;
      later = omega (arith, c.try_once.ensures.cause.later, c.loop.invariant.later);
    }

pub returns-in-Err-clause-once : goal.returns-in-Err-clause-once
returns-in-Err-clause-once g c = λ is_alone v serves.
    let (others, none, mid, holds) = c.loop.invariant.told true v is_alone serves in
    one_settled Listing c.in-Err.fault (c.in-Err.ensures.once is_alone (later v others) mid)

pub returns-in-Err-clause-changes : goal.returns-in-Err-clause-changes
returns-in-Err-clause-changes g c =
    blames_none (Option Listing) g.P.Peer.tells c.args.peer.now c.try_once.new.peer c.in-Err.fault
    c.in-Err.ensures.settled

pub returns-clause-changes : goal.returns-clause-changes
returns-clause-changes g c =
    let all : c.loop.counter ≡ 9 = omega (arith, c.loop-test.false, c.loop.auto.counter-end) in
    subst (λ (n : ℕ). SeesChanges g.P.Peer.tells n c.args.peer.now c.loop.peer) all
    c.loop.invariant.changes
