use Rattle.std.proofs.Common.{◌≡◌, ◌∙◌, List, Some, ap, subst, sym, ◌*◌}
use Rattle.std.specs.Prelude.{slice_get}
use Rattle.std.proofs.lemmas.Option.{slice_get-get_or}
use Rattle.ov_base.specs.declared.limits.TheConstants.{SET_WORDS}
use Rattle.ov_base_layer.specs.declared.grant.Grant.{Grant}
use Rattle.ov_wire.specs.Entries.{Access}
use Rattle.ov_server.proofs.PageForms.{access_form, some_entry}
use Rattle.ov_server.proofs.paging.access_page.Goals as goal

pub returns-clause-form : goal.returns-clause-form
returns-clause-form c =
    let grant = c.in-Some.grant.now in
    let found = c.in-Some.ensures.lookup.3 in
    let there : slice_get c.accesses.result.now c.args.number ≡ Some grant =
    slice_get-get_or c.accesses.result.now c.args.number grant found.0
    ∙ ap (λ (g : Grant). Some g) (sym (found.1 grant)) in
    some_entry 4 (Access grant.user grant.node grant.token) _ _ _
    (access_form (64 * SET_WORDS) c.args.state.now.catalogue c.args.number grant c.known.ensures
    (subst (λ (l : List Grant). slice_get l c.args.number ≡ Some grant)
    (c.accesses.ensures ∙ c.base.ensures.grants) there)
    c.known_token.ensures)
    c.new-bytes.ensures.items c.in_ok-access_entry.ensures.ok c.from_vec.ensures
