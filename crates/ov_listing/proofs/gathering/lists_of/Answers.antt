use Rattle.std.proofs.Common.{◌∙◌, ◌+◌, ◌++◌, List, [], ◌∷◌, ℕ, Option, Ok, ap, arith, subst, sym}
use Rattle.ov_listing.specs.Questions.{IsListAt}
use Rattle.ov_listing.specs.Telling.{Told}
use Rattle.ov_listing.specs.declared.listing.Listed.{Listed}
use Rattle.ov_listing.proofs.AllOfThem.{AreListed, none_listed, one_listed}
use Rattle.ov_listing.proofs.Meanwhile.{Meanwhile}
use Rattle.ov_listing.proofs.gathering.lists_of.Goals as goal

pub returns-in-Ok-None-clause-told : goal.returns-in-Ok-None-clause-told
returns-in-Ok-None-clause-told g c = λ alone v is_alone serves.
    let peer = g.P.Peer.tells in
    let Then = peer.serves c.list_of.new.peer in
    let file = c.file-item.result in
    none_listed alone v (peer.serves c.loop-file.peer) Then c.args.files.now
    c.loop-file.file-index c.loop-file.lists.items
    (c.loop-file.invariant.told alone v is_alone serves)
    file c.loop-file-test.true c.file-item.is
    (λ w mid.
    subst (λ (found : Option (List (List ℕ))). Told alone w Then (IsListAt file) (Ok found))
    c.in-Ok-None.field-0-is (c.in-Ok-None.ensures.told alone w is_alone mid))

pub loop-file-preserved : goal.loop-file-preserved
loop-file-preserved g c =
    let peer = g.P.Peer.tells in
    let Then = peer.serves c.list_of.new.peer in
    let files = c.args.files.now in
    let n = c.loop-file.file-index in
    let lists = c.loop-file.lists.items in
    let file = c.file-item.result in
    let names = c.in-Ok-Some.names in
    record {
      told = λ alone v is_alone serves.
          subst (λ (all : List Listed). Meanwhile alone v Then (AreListed files (n + 1) all v))
          (sym
          (c.in-Ok.ensures.items
          ∙ ap (λ (f : List ℕ). lists ++ record { file = f; names = names } ∷ []) c.copy.ensures))
          (one_listed alone v (peer.serves c.loop-file.peer) Then files n lists
          (c.loop-file.invariant.told alone v is_alone serves)
          file names c.loop-file-test.true c.file-item.is
          (λ w mid.
          subst (λ (found : Option (List (List ℕ))). Told alone w Then (IsListAt file) (Ok found))
          c.in-Ok-Some.field-0-is (c.in-Ok-Some.ensures.told alone w is_alone mid)));
      same = c.list_of.ensures.same ∙ c.loop-file.invariant.same;
      later = omega (arith, c.list_of.ensures.cause.later, c.loop-file.invariant.later);
    }
