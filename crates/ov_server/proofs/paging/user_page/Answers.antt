use Rattle.std.proofs.Common.{sym, ◌*◌}
use Rattle.ov_base.specs.declared.limits.TheConstants.{SET_WORDS}
use Rattle.ov_state.specs.Asking.{numbers_of}
use Rattle.ov_wire.specs.Entries.{User}
use Rattle.ov_server.proofs.PageForms.{some_entry, user_form}
use Rattle.ov_server.proofs.paging.user_page.Goals as goal

pub returns-clause-form : goal.returns-clause-form
returns-clause-form c =
    let roots = c.told_of_user-roots.result in
    some_entry 1 (User c.in-Some.name.now roots.base_root roots.surface_root) _ _ _
    (user_form (64 * SET_WORDS) c.args.state.now.catalogue c.args.number c.in-Some.name.now (numbers_of roots)
    c.known.ensures (sym c.in-Some.ensures) c.known_name.ensures c.told_of_user-roots.ensures)
    c.new-bytes.ensures.items c.in_ok-user_entry.ensures.ok c.from_vec.ensures
