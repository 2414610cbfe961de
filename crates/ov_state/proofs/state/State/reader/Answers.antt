use Rattle.std.proofs.Common.{◌∙◌, ◌≤◌, arith, rules, sym}
use Rattle.ov_base.specs.declared.limits.TheConstants.{MAX_SET_WORDS}
use Rattle.ov_state.proofs.AnswerLaws.{not_reading, reading, unknown_file}
use Rattle.ov_state.proofs.state.State.reader.Goals as goal

pub returns-in_default-file_number : goal.returns-in_default-file_number
returns-in_default-file_number g c =
    unknown_file c.args.self.now.catalogue c.args.user.now c.args.file.now c.in-Some.user c.in-Some.ensures c.in_default-file_number.ensures.number

pub list_of-requires : goal.list_of-requires
list_of-requires g c =
    let narrow : g.row.W ≤ MAX_SET_WORDS = omega (arith, c.known.ensures.width.1) in
    let there = c.in-Some-file_number.ensures.there in
    (search rules, (search rules, there))

pub returns-then-contains : goal.returns-then-contains
returns-then-contains g c =
    reading c.args.self.now.catalogue c.args.user.now c.args.file.now c.in-Some.user c.in-Some.ensures
    c.in-Some-file_number.file c.list_of.result c.in-Some-file_number.ensures.number c.in-Some-file_number.ensures.there c.list_of.ensures
    (sym c.contains.ensures.member ∙ c.if-contains.true)

pub returns-else-contains : goal.returns-else-contains
returns-else-contains g c =
    not_reading c.args.self.now.catalogue c.args.user.now c.args.file.now c.in-Some.user c.in-Some.ensures
    c.in-Some-file_number.file c.list_of.result c.in-Some-file_number.ensures.number c.in-Some-file_number.ensures.there c.list_of.ensures
    (sym c.contains.ensures.member ∙ c.if-contains.false)
