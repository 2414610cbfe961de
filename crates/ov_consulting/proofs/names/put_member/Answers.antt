use Rattle.std.proofs.Common.{◌∙◌, ap, sym}
use Rattle.ov_base.specs.NameLists.{with_name}
use Rattle.ov_consulting.proofs.NamesIn.{gathered, passed}
use Rattle.ov_consulting.proofs.names.put_member.Goals as goal

pub returns-in_ok-insert : goal.returns-in_ok-insert
returns-in_ok-insert c =
    gathered c.args.set.now c.args.state.now.catalogue.users c.args.user c.in-Some.name.now
    c.args.names.now _ c.requires.distinct (sym c.in-Some.ensures) c.requires.before
    (sym c.contains.ensures.member ∙ c.if-contains.true)
    (c.in_ok-insert.ensures.ok ∙ ap (with_name c.args.names.now) c.copy.ensures)

pub returns-else-contains : goal.returns-else-contains
returns-else-contains c =
    passed c.args.set.now c.args.state.now.catalogue.users c.args.user c.in-Some.name.now
    c.args.names.now (sym c.in-Some.ensures) c.requires.before
    (sym c.contains.ensures.member ∙ c.if-contains.false)
