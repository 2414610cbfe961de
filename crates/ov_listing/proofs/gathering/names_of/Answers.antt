use Rattle.std.proofs.Common.{◌≡◌, ◌∙◌, ◌+◌, suc, List, ℕ, Option, Ok, arith, subst, sym}
use Rattle.ov_listing.specs.Questions.{IsShownAt}
use Rattle.ov_listing.specs.Telling.{Told}
use Rattle.ov_listing.proofs.AllOfThem.{AreFirst, no_more, one_more}
use Rattle.ov_listing.proofs.Meanwhile.{Meanwhile}
use Rattle.ov_listing.proofs.gathering.names_of.Goals as goal
use Rattle.ov_listing.specs.Questions.{most_in, part_number}
use Rattle.ov_listing.specs.Reasons.{IsOnPage}
use Rattle.ov_listing.specs.declared.shown.Shown.{Shown}
use Rattle.ov_listing.proofs.Blaming.{one_page, too_many}

pub returns-in-Ok-None-clause-told : goal.returns-in-Ok-None-clause-told
returns-in-Ok-None-clause-told g c = λ alone v is_alone serves.
    let peer = g.P.Peer.tells in
    let Then = peer.serves c.shown_at.new.peer in
    let n = c.loop-number.number in
    no_more alone v (peer.serves c.loop-number.peer) Then c.args.part n c.loop-number.names.items
    (c.loop-number.invariant.told alone v is_alone serves)
    (λ w mid.
    subst (λ (found : Option Shown). Told alone w Then (IsShownAt c.args.part n) (Ok found))
    c.in-Ok-None.field-0-is
    (c.in-Ok-None.ensures.told alone w is_alone mid))

pub loop-number-preserved : goal.loop-number-preserved
loop-number-preserved g c =
    let peer = g.P.Peer.tells in
    let Then = peer.serves c.shown_at.new.peer in
    let n = c.loop-number.number in
    record {
      told = λ alone v is_alone serves.
          subst (λ (names : List (List ℕ)). Meanwhile alone v Then (AreFirst c.args.part (n + 1) names v))
          (sym c.in-Ok.ensures)
          (one_more alone v (peer.serves c.loop-number.peer) Then c.args.part n
          c.loop-number.names.items
          (c.loop-number.invariant.told alone v is_alone serves)
          c.in-Ok-Some.shown
          (λ w mid.
          subst (λ (found : Option Shown). Told alone w Then (IsShownAt c.args.part n) (Ok found))
          c.in-Ok-Some.field-0-is
          (c.in-Ok-Some.ensures.told alone w is_alone mid)));
      page = one_page peer (part_number c.args.part) n c.shown_at.new.peer
          (subst (IsOnPage peer (part_number c.args.part) n c.shown_at.new.peer)
          c.in-Ok-Some.field-0-is c.in-Ok-Some.ensures.page);
      same = c.shown_at.ensures.same ∙ c.loop-number.invariant.same;
      later = omega (arith, c.shown_at.ensures.cause.later, c.loop-number.invariant.later);
    }

pub returns-clause-blames : goal.returns-clause-blames
returns-clause-blames g c =
    let count : c.loop-number.number ≡ suc (most_in c.args.part) =
    omega (
      arith,
      c.pages-number-end.ensures,
      c.loop-number-test.false,
      c.loop-number.auto.number-end,
    ) in
    too_many g.P.Peer.tells c.args.part c.loop-number.peer c.loop-number.number count
    c.loop-number.invariant.page
