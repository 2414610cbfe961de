use Rattle.std.proofs.Common.{◌≡◌, ◌∙◌, subst, true}
use Rattle.std.specs.Prelude.{is_some, IfSome}
use Rattle.ov_history.specs.Places.{living_at, IsNumber}
use Rattle.ov_state.specs.Entries.{filed_names, plain_files, FileList}
use Rattle.ov_state.proofs.FilesByNumber.{not_empty, number-found, number-there}
use Rattle.ov_state.proofs.files.Files.number_of.Goals as goal

pub returns-clause-number : goal.returns-clause-number
returns-clause-number c =
    subst (λ (l : FileList). IsNumber (filed_names l.files) c.args.name.now c.copied.result) c.self.view_is
    (number-found (plain_files c.self.inside.list.items) c.args.name.now c.self.inside.numbers.entries c.copied.result
    (not_empty c.args.name.now c.as_bytes-bytes.ensures.form) c.self.invariant.0.0 (c.copied.ensures ∙ c.get.ensures.value))

pub returns-clause-there : goal.returns-clause-there
returns-clause-there c =
    let files = plain_files c.self.inside.list.items in
    let named = not_empty c.args.name.now c.as_bytes-bytes.ensures.form in
    subst (λ (l : FileList). IfSome c.copied.result (λ file. is_some (living_at l.files file) ≡ true)) c.self.view_is
    (number-there files c.args.name.now c.copied.result named
    (number-found files c.args.name.now c.self.inside.numbers.entries c.copied.result named c.self.invariant.0.0 (c.copied.ensures ∙ c.get.ensures.value)))
