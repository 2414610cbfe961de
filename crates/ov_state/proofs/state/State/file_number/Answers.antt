use Rattle.std.proofs.Common.{◌≡◌, subst, true}
use Rattle.std.specs.Prelude.{is_some, IfSome}
use Rattle.ov_history.specs.Places.{living_at, IsNumber}
use Rattle.ov_state.specs.Contents.{Held}
use Rattle.ov_state.specs.Entries.{filed_names}
use Rattle.ov_state.proofs.QueryLaws.{file_number_by}
use Rattle.ov_state.proofs.state.State.file_number.Goals as goal

pub returns-clause-number : goal.returns-clause-number
returns-clause-number g c =
    file_number_by c.args.self.now.catalogue c.args.name.now c.number_of.result
    (subst (λ (h : Held). IsNumber (filed_names h.catalogue.files) c.args.name.now c.number_of.result) c.self.view_is c.number_of.ensures.number)

pub returns-clause-there : goal.returns-clause-there
returns-clause-there g c =
    subst (λ (h : Held). IfSome c.number_of.result (λ file. is_some (living_at h.catalogue.files file) ≡ true)) c.self.view_is c.number_of.ensures.there
