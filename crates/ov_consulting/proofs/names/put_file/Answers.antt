use Rattle.std.proofs.Common.{◌∙◌, ℕ, ap}
use Rattle.ov_history.specs.Lists.{names_in}
use Rattle.ov_consulting.proofs.Gathered.{gone_file, list_is_there, next_file}
use Rattle.ov_consulting.proofs.names.put_file.Goals as goal

pub returns-in_default : goal.returns-in_default
returns-in_default c =
    gone_file c.args.state.now.catalogue c.args.file c.args.files.now.items c.requires.file
    c.in_default.ensures c.requires.before

pub unreachable-requires : goal.unreachable-requires
unreachable-requires c =
    list_is_there c.args.state.now.catalogue c.args.file c.in-Some.name.now
    c.in_default-list.field-0 c.as_bytes-bytes.ensures.form c.in-Some.ensures
    c.in_default-list.ensures

pub returns : goal.returns
returns c =
    let users = c.args.state.now.catalogue.users in
    next_file c.args.state.now.catalogue c.args.file c.in-Some.name.now c.args.files.now.items _ _
    c.requires.file c.in-Some.ensures c.requires.before c.in_ok-push.ensures.items
    (λ i. record {
      file = c.copy.ensures i;
      names = (c.in_ok-names.ensures ∙ ap (λ (set : ℕ). names_in set users) c.in-Ok.ensures.1) i;
    })
