use Rattle.std.proofs.Common.{◌≡◌, ◌∙◌, ap, subst, true}
use Rattle.std.specs.Prelude.{is_some, IfSome}
use Rattle.ov_base.specs.NameLists.{is_among}
use Rattle.ov_history.specs.Places.{living_at, IsNumber}
use Rattle.ov_state.specs.Contents.{Held}
use Rattle.ov_state.specs.Entries.{filed_names}
use Rattle.ov_state.proofs.NewTests.{file_test, number_there}
use Rattle.ov_state.proofs.state.State.has_file.Goals as goal

pub returns-clause-named : goal.returns-clause-named
returns-clause-named g c =
    c.is_some.ensures
    ∙ number_there c.args.name.now _ c.number_of.result c.number_of.ensures.number
    ∙ ap (λ (held : Held). is_among c.args.name.now (filed_names held.catalogue.files)) c.self.view_is

pub returns-clause-shown : goal.returns-clause-shown
returns-clause-shown g c =
    c.is_some.ensures
    ∙ file_test c.args.self.now.catalogue c.args.name.now c.number_of.result
    (subst (λ (h : Held). IsNumber (filed_names h.catalogue.files) c.args.name.now c.number_of.result) c.self.view_is c.number_of.ensures.number)
    (subst (λ (h : Held). IfSome c.number_of.result (λ file. is_some (living_at h.catalogue.files file) ≡ true)) c.self.view_is c.number_of.ensures.there)
