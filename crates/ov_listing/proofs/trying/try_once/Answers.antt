use Rattle.std.proofs.Common.{refl, true, None, Ok, Option, inl, inr, subst}
use Rattle.std.specs.Prelude.{Some, Vec}
use Rattle.std.specs.declared.alloc.Global.{Global}
use Rattle.ov_protocol.specs.Serving.{later}
use Rattle.ov_listing.proofs.OneEpoch.{settled}
use Rattle.ov_listing.specs.Questions.{AreFilesAt, AreNamesAt, IsTryAt, IsWelcomeAt}
use Rattle.ov_listing.specs.Reasons.{IsNoneByRefusal}
use Rattle.ov_listing.specs.Telling.{ToldOfOne}
use Rattle.ov_listing.specs.declared.listing.Listed.{Listed}
use Rattle.ov_listing.specs.declared.listing.Listing.{Listing}
use Rattle.ov_listing.specs.declared.part.Part.TheVariants.{Users}
use Rattle.ov_listing.proofs.Meanwhile.{behind, of_one, told_behind}
use Rattle.ov_listing.proofs.Settling.{same_epoch}
use Rattle.ov_listing.proofs.trying.try_once.Goals as goal

pub returns-then-after-before-clause-told : goal.returns-then-after-before-clause-told
returns-then-after-before-clause-told g c = λ alone v is_alone serves.
    let peer = g.P.Peer.tells in
    let three = peer.serves c.files_of.new.peer in
    let after = c.in-Ok-ask_welcome.welcome in
    settled alone v (peer.serves c.ask_welcome.new.peer) (peer.serves c.names_of.new.peer) three
    (peer.serves c.ask_welcome-2.new.peer) c.args.wanted c.in-Ok.welcome after
    (record {
      mode = after.mode;
      epoch = after.epoch;
      users = c.in-Ok-names_of.users;
      files = c.in-Ok-Some.files;
    })
    (c.in-Ok.ensures.told alone v is_alone serves)
    (λ w one. c.in-Ok-names_of.ensures.told alone w is_alone one)
    (λ w two.
    subst (λ (found : Option (Vec Listed Global)).
    ToldOfOne alone w three (AreFilesAt c.args.wanted) (Ok found)) c.in-Ok-Some.field-0-is
    (c.in-Ok-Some.ensures.told alone w is_alone two))
    (λ w last. c.in-Ok-ask_welcome.ensures.told alone w is_alone last)
    c.if-after-before.true refl refl

pub returns-else-after-before-clause-once : goal.returns-else-after-before-clause-once
returns-else-after-before-clause-once g c = λ is_alone v serves.
    let peer = g.P.Peer.tells in
    let one = peer.serves c.ask_welcome.new.peer in
    let two = peer.serves c.names_of.new.peer in
    let three = peer.serves c.files_of.new.peer in
    let Names = AreNamesAt Users c.in-Ok-names_of.users.items in
    let Files = AreFilesAt c.args.wanted (Some c.in-Ok-Some.files) in
    absurd (c.if-after-before.false
    (same_epoch v one three (peer.serves c.ask_welcome-2.new.peer) (λ w. Names w × Files w)
    c.in-Ok.welcome c.in-Ok-ask_welcome.welcome
    (c.in-Ok.ensures.told true v is_alone serves)
    (λ w first.
    behind true w two three (Names w) Files
    (c.in-Ok-names_of.ensures.told true w is_alone first)
    (λ u second.
    subst (λ (found : Option (Vec Listed Global)).
    ToldOfOne true u three (AreFilesAt c.args.wanted) (Ok found)) c.in-Ok-Some.field-0-is
    (c.in-Ok-Some.ensures.told true u is_alone second)))
    (λ w third. c.in-Ok-ask_welcome.ensures.told true w is_alone third)))

pub returns-else-after-before-clause-changed : goal.returns-else-after-before-clause-changed
returns-else-after-before-clause-changed g c = record {
  first = c.in-Ok.welcome;
  behind = c.ask_welcome.new.peer;
  begins = c.in-Ok.ensures.greets;
  ends = inl (record {
    before = c.files_of.new.peer;
    last = c.in-Ok-ask_welcome.welcome;
    greets = c.in-Ok-ask_welcome.ensures.greets;
    moved = c.if-after-before.false;
  });
}

pub returns-else-after-before-clause-told : goal.returns-else-after-before-clause-told
returns-else-after-before-clause-told g c = λ alone v is_alone serves.
    let peer = g.P.Peer.tells in
    let one = peer.serves c.ask_welcome.new.peer in
    let two = peer.serves c.names_of.new.peer in
    let three = peer.serves c.files_of.new.peer in
    let welcome = c.in-Ok.welcome in
    let Names = AreNamesAt Users c.in-Ok-names_of.users.items in
    let Files = AreFilesAt c.args.wanted (Some c.in-Ok-Some.files) in
    told_behind {T = Option Listing} alone v three (peer.serves c.ask_welcome-2.new.peer)
    ((IsWelcomeAt welcome v × Names v) × Files v) (IsTryAt c.args.wanted) None
    (behind alone v two three (IsWelcomeAt welcome v × Names v) Files
    (behind alone v one two (IsWelcomeAt welcome v) Names
    (of_one alone v one IsWelcomeAt welcome (c.in-Ok.ensures.told alone v is_alone serves))
    (λ w first. c.in-Ok-names_of.ensures.told alone w is_alone first))
    (λ w second.
    subst (λ (found : Option (Vec Listed Global)).
    ToldOfOne alone w three (AreFilesAt c.args.wanted) (Ok found)) c.in-Ok-Some.field-0-is
    (c.in-Ok-Some.ensures.told alone w is_alone second)))
    (λ w third.
    let (others, may, then, right) = c.in-Ok-ask_welcome.ensures.told alone w is_alone third in
    (others, may, then, tt))

-- ---- a list that is refused

pub returns-in-Ok-None-clause-once : goal.returns-in-Ok-None-clause-once
returns-in-Ok-None-clause-once g c = λ is_alone v serves.
    let peer = g.P.Peer.tells in
    let one = peer.serves c.ask_welcome.new.peer in
    let two = peer.serves c.names_of.new.peer in
    let three = peer.serves c.files_of.new.peer in
    let (a, no_a, first, greets) = c.in-Ok.ensures.told true v is_alone serves in
    let (b, no_b, second, names) = c.in-Ok-names_of.ensures.told true (later v a) is_alone first in
    let (others, none, third, missing) =
    subst (λ (found : Option (Vec Listed Global)).
    ToldOfOne true (later (later v a) b) three (AreFilesAt c.args.wanted) (Ok found))
    c.in-Ok-None.field-0-is
    (c.in-Ok-None.ensures.told true (later (later v a) b) is_alone second) in
    absurd (missing none)

pub returns-in-Ok-None-clause-changed : goal.returns-in-Ok-None-clause-changed
returns-in-Ok-None-clause-changed g c =
    let peer = g.P.Peer.tells in
    let q = c.files_of.new.peer in
    record {
      first = c.in-Ok.welcome;
      behind = c.ask_welcome.new.peer;
      begins = c.in-Ok.ensures.greets;
      ends = inr (subst (IsNoneByRefusal peer q) c.in-Ok-None.field-0-is
          c.in-Ok-None.ensures.refused);
    }

pub returns-in-Ok-None-clause-told : goal.returns-in-Ok-None-clause-told
returns-in-Ok-None-clause-told g c = λ alone v is_alone serves.
    let peer = g.P.Peer.tells in
    let one = peer.serves c.ask_welcome.new.peer in
    let two = peer.serves c.names_of.new.peer in
    let three = peer.serves c.files_of.new.peer in
    let welcome = c.in-Ok.welcome in
    let Names = AreNamesAt Users c.in-Ok-names_of.users.items in
    told_behind {T = Option Listing} alone v two three (IsWelcomeAt welcome v × Names v)
    (IsTryAt c.args.wanted) None
    (behind alone v one two (IsWelcomeAt welcome v) Names
    (of_one alone v one IsWelcomeAt welcome (c.in-Ok.ensures.told alone v is_alone serves))
    (λ w first. c.in-Ok-names_of.ensures.told alone w is_alone first))
    (λ w second.
    let (others, may, then, right) =
    subst (λ (found : Option (Vec Listed Global)).
    ToldOfOne alone w three (AreFilesAt c.args.wanted) (Ok found)) c.in-Ok-None.field-0-is
    (c.in-Ok-None.ensures.told alone w is_alone second) in
    (others, may, then, tt))
