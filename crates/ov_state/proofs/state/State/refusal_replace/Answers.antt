use Rattle.std.proofs.Common.{◌≡◌, ◌∙◌, ap, not, rules, sym, true}
use Rattle.std.specs.Prelude.{is_some}
use Rattle.ov_history.specs.Places.{living_at}
use Rattle.ov_state.proofs.NewTests.{files_test, first_here, first_later}
use Rattle.ov_state.proofs.QueryLaws.{file_here}
use Rattle.ov_state.proofs.state.State.refusal_replace.Goals as goal

pub is_full_without-requires : goal.is_full_without-requires
is_full_without-requires g c =
    let there : is_some (living_at c.args.self.now.catalogue.files c.args.file) ≡ true = sym c.is_file.ensures ∙ c.if-not-is_file.false in
    search rules

pub returns-then-not-is_file : goal.returns-then-not-is_file
returns-then-not-is_file g c =
    sym (first_here _ _ _ (ap not (file_here c.args.self.now.catalogue c.args.file ∙ sym c.is_file.ensures ∙ c.if-not-is_file.true)))

pub returns-then-is_full_of_files : goal.returns-then-is_full_of_files
returns-then-is_full_of_files g c =
    sym (first_later _ _ _ (ap not (file_here c.args.self.now.catalogue c.args.file ∙ sym c.is_file.ensures ∙ c.if-not-is_file.false))
    ∙ first_here _ _ _ (files_test c.args.self.now.catalogue ∙ sym c.is_full_of_files.ensures ∙ c.if-is_full_of_files.true))

pub returns-then-is_full_without : goal.returns-then-is_full_without
returns-then-is_full_without g c =
    sym (first_later _ _ _ (ap not (file_here c.args.self.now.catalogue c.args.file ∙ sym c.is_file.ensures ∙ c.if-not-is_file.false))
    ∙ first_later _ _ _ (files_test c.args.self.now.catalogue ∙ sym c.is_full_of_files.ensures ∙ c.if-is_full_of_files.false)
    ∙ first_here _ _ _ (sym c.is_full_without.ensures ∙ c.if-is_full_without.true))

pub returns-else-is_full_without : goal.returns-else-is_full_without
returns-else-is_full_without g c =
    sym (first_later _ _ _ (ap not (file_here c.args.self.now.catalogue c.args.file ∙ sym c.is_file.ensures ∙ c.if-not-is_file.false))
    ∙ first_later _ _ _ (files_test c.args.self.now.catalogue ∙ sym c.is_full_of_files.ensures ∙ c.if-is_full_of_files.false)
    ∙ first_later _ _ _ (sym c.is_full_without.ensures ∙ c.if-is_full_without.false))
