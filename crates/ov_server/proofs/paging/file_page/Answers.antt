use Rattle.std.proofs.Common.{rules, sym, ◌*◌}
use Rattle.ov_base.specs.declared.limits.TheConstants.{SET_WORDS}
use Rattle.ov_state.specs.Entries.{plain_file}
use Rattle.ov_wire.specs.Entries.{File}
use Rattle.ov_protocol.specs.Pages.{entry_of}
use Rattle.ov_server.proofs.PageForms.{entry_there, file_form, page_is, some_entry}
use Rattle.ov_server.proofs.paging.file_page.Goals as goal

pub returns-clause-entry : goal.returns-clause-entry
returns-clause-entry c =
    let file = c.in-Some.file.now in
    let s = c.args.state.now.catalogue in
    page_is (entry_of s 5 c.args.number)
    (File file.name file.node file.length file.generation file.tag file.surface) _ _ _
    (entry_there s c.args.number (plain_file file) (sym c.in-Some.ensures))
    c.new-bytes.ensures.items c.in_ok-file_entry.ensures.ok c.from_vec.ensures

pub returns-clause-form : goal.returns-clause-form
returns-clause-form c =
    let file = c.in-Some.file.now in
    some_entry 5 (File file.name file.node file.length file.generation file.tag file.surface) _ _ _
    (file_form (64 * SET_WORDS) c.args.state.now.catalogue c.args.number (plain_file file) c.known.ensures
    (sym c.in-Some.ensures) c.known_name.ensures c.known_tag.ensures (search rules))
    c.new-bytes.ensures.items c.in_ok-file_entry.ensures.ok c.from_vec.ensures
