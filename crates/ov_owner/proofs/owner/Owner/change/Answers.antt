use Rattle.std.proofs.Common.{◌∙◌, ap, subst, sym}
use Rattle.ov_history.specs.Masters.{Masters}
use Rattle.ov_owner.specs.Alone.{MakesOneOrNone}
use Rattle.ov_owner.specs.Changes.{command_of, errand_of}
use Rattle.ov_owner.specs.Completeness.{IsCompleteCall, SaysUpdate}
use Rattle.ov_owner.specs.Steps.{IsOwnersReply}
use Rattle.ov_owner.proofs.Completing.{change_alone, change_complete}
use Rattle.ov_owner.proofs.Owning.{change_reply}
use Rattle.ov_owner.proofs.owner.Owner.change.Goals as goal

pub returns-clause-told : goal.returns-clause-told
returns-clause-told g c = λ v is same.
    let k : Masters = record { base = c.self.inside.base.bytes; surface = c.self.inside.surface.bytes } in
    let Then = g.P.Peer.tells.serves c.settle.new.peer in
    subst (λ (x : Masters). IsOwnersReply x (command_of c.args.change.now) v Then c.settle.result)
    c.self.view_is
    (change_reply g.P.Peer.tells k c.args.change.now
    c.args.peer.now c.settle.new.peer v is (same ∙ ap (λ (x : Masters). x.surface) (sym c.self.view_is))
    c.settle.result c.settle.ensures.runs)

pub returns-clause-alone : goal.returns-clause-alone
returns-clause-alone g c =
    let k : Masters = record { base = c.self.inside.base.bytes; surface = c.self.inside.surface.bytes } in
    let change = c.args.change.now in
    let p = c.args.peer.now in
    let q = c.settle.new.peer in
    subst (λ (x : Masters). MakesOneOrNone g.P.Peer.tells (errand_of x.base change) p q)
    c.self.view_is
    (change_alone g.P.Peer.tells k change p q c.settle.result c.settle.ensures.runs)

pub returns-clause-complete : goal.returns-clause-complete
returns-clause-complete g c =
    let k : Masters = record { base = c.self.inside.base.bytes; surface = c.self.inside.surface.bytes } in
    let change = c.args.change.now in
    let p = c.args.peer.now in
    let q = c.settle.new.peer in
    subst (λ (x : Masters).
    IsCompleteCall g.P.Peer.tells x p q (SaysUpdate x (command_of change)) c.settle.result)
    c.self.view_is
    (change_complete g.P.Peer.tells k change p q c.settle.result c.settle.ensures.runs
    c.settle.ensures.cause.link)
