use Rattle.std.proofs.Common.{rules}
use Rattle.ov_state.proofs.AnswerLaws.{listing, not_listing}
use Rattle.ov_state.proofs.state.State.list.Goals as goal

pub list_of-requires : goal.list_of-requires
list_of-requires g c =
    let there = c.in-Some.ensures.there in
    (search rules, (search rules, there))

pub returns-in-Some : goal.returns-in-Some
returns-in-Some g c =
    listing c.args.self.now.catalogue c.args.file.now c.in-Some.number c.list_of.result c.in-Some.ensures.number c.in-Some.ensures.there c.list_of.ensures

pub returns-in-None : goal.returns-in-None
returns-in-None g c = not_listing c.args.self.now.catalogue c.args.file.now c.in-None.ensures.number
