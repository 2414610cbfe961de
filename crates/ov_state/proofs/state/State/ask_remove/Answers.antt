use Rattle.std.proofs.Common.{◌≡◌, ◌∙◌, ap, rules, subst, sym, true}
use Rattle.std.specs.Prelude.{is_some, IfNone, Option}
use Rattle.ov_base.specs.declared.refusal.Refusal.{Refusal}
use Rattle.ov_history.specs.Asking.{of_file, refusal_at}
use Rattle.ov_history.specs.History.{Removed}
use Rattle.ov_history.specs.Places.{living_at}
use Rattle.ov_state.proofs.state.State.ask_remove.Goals as goal

pub returns-in-Some : goal.returns-in-Some
returns-in-Some g c =
    let s = c.args.self.now.catalogue in
    ap (λ file. refusal_at s (Removed file)) (sym c.file_or_next-file.ensures) ∙ sym c.refusal_remove.ensures.why ∙ c.in-Some.is

pub told_of_file-requires : goal.told_of_file-requires
told_of_file-requires g c =
    let files = c.args.self.now.catalogue.files in
    let file = c.file_or_next-file.result in
    let there : is_some (living_at files file) ≡ true =
    subst (λ (r : Option Refusal). IfNone r (is_some (living_at files file) ≡ true)) c.in_default.is c.refusal_remove.ensures.there in
    search rules

pub returns : goal.returns
returns g c =
    let s = c.args.self.now.catalogue in (
      ap (λ file. refusal_at s (Removed file)) (sym c.file_or_next-file.ensures) ∙ sym c.refusal_remove.ensures.why ∙ c.in_default.is,
      c.told_of_file.ensures ∙ ap (of_file s) c.file_or_next-file.ensures,
    )
