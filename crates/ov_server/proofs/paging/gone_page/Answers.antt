use Rattle.std.proofs.Common.{◌≡◌, ◌<◌, ap, arith, length}
use Rattle.ov_state.specs.declared.queries.Sizes.{Sizes}
use Rattle.ov_wire.specs.Entries.{Gone}
use Rattle.ov_protocol.specs.Pages.{entry_of}
use Rattle.ov_server.proofs.PageForms.{entry_gone, page_is, some_entry}
use Rattle.ov_server.proofs.paging.gone_page.Goals as goal

pub returns-clause-entry : goal.returns-clause-entry
returns-clause-entry c =
    let s = c.args.state.now.catalogue in
    let count : c.sizes-given.result.files ≡ length s.files =
    ap (λ (sizes : Sizes). sizes.files) c.sizes-given.ensures in
    let below : c.args.number < length s.files = omega (arith, count, c.if-given-number.false) in
    page_is (entry_of s 5 c.args.number) Gone _ _ _
    (entry_gone s c.args.number below c.requires)
    c.new-bytes.ensures.items c.in_ok-push.ensures.items c.from_vec.ensures

pub returns-clause-form : goal.returns-clause-form
returns-clause-form c =
    some_entry 5 Gone _ _ _ tt c.new-bytes.ensures.items c.in_ok-push.ensures.items
    c.from_vec.ensures
