use Rattle.std.proofs.Common.{List, Option, Result, ℕ, subst, sym}
use Rattle.ov_listing.specs.Answers.{IsTextAt}
use Rattle.ov_listing.specs.Telling.{Told}
use Rattle.ov_listing.specs.declared.fault.ListingFault.{ListingFault}
use Rattle.ov_listing.proofs.TextsTold.{epoch_told}
use Rattle.ov_listing.proofs.answering.answer.Goals as goal
use Rattle.ov_wire.specs.declared.answer.Welcome.{Welcome}
use Rattle.ov_listing.proofs.Blaming.{blames_none}

pub returns-in-Ok-clause-told : goal.returns-in-Ok-clause-told
returns-in-Ok-clause-told g c = λ alone v is_alone serves.
    let Then = g.P.Peer.tells.serves c.ask_welcome.new.peer in
    let question = c.args.question.now in
    subst (λ (r : Result (Option (List ℕ)) ListingFault). Told alone v Then (IsTextAt question) r)
    (sym c.given.ensures)
    (epoch_told alone v Then question c.in-Epoch.is c.in-Ok.welcome c.epoch_answer.result
    c.epoch_answer.ensures
    (c.in-Ok.ensures.told alone v is_alone serves))

pub returns-in-Err-clause-changes : goal.returns-in-Err-clause-changes
returns-in-Err-clause-changes g c =
    blames_none Welcome g.P.Peer.tells c.args.peer.now c.ask_welcome.new.peer c.in-Err.fault
    c.in-Err.ensures.settled
