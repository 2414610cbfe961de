use Rattle.std.proofs.Common.{sym, ◌∙◌, ap, not}
use Rattle.ov_state.proofs.NewTests.{files_test, first_here, first_later}
use Rattle.ov_state.proofs.state.State.refusal_create.Goals as goal

pub returns-then-has_file-clause-why : goal.returns-then-has_file-clause-why
returns-then-has_file-clause-why g c =
    sym (first_here _ _ _ (sym c.has_file.ensures.shown ∙ c.if-has_file.true))

pub returns-then-not-has_all-clause-why : goal.returns-then-not-has_all-clause-why
returns-then-not-has_all-clause-why g c =
    sym (first_later _ _ _ (sym c.has_file.ensures.shown ∙ c.if-has_file.false)
    ∙ first_here _ _ _ (ap not (sym c.has_all.ensures ∙ c.if-not-has_all.true)))

pub returns-then-is_full_of_files-clause-why : goal.returns-then-is_full_of_files-clause-why
returns-then-is_full_of_files-clause-why g c =
    sym (first_later _ _ _ (sym c.has_file.ensures.shown ∙ c.if-has_file.false)
    ∙ first_later _ _ _ (ap not (sym c.has_all.ensures ∙ c.if-not-has_all.false))
    ∙ first_here _ _ _ (files_test c.args.self.now.catalogue ∙ sym c.is_full_of_files.ensures ∙ c.if-is_full_of_files.true))

pub returns-then-is_full_of_bytes-clause-why : goal.returns-then-is_full_of_bytes-clause-why
returns-then-is_full_of_bytes-clause-why g c =
    sym (first_later _ _ _ (sym c.has_file.ensures.shown ∙ c.if-has_file.false)
    ∙ first_later _ _ _ (ap not (sym c.has_all.ensures ∙ c.if-not-has_all.false))
    ∙ first_later _ _ _ (files_test c.args.self.now.catalogue ∙ sym c.is_full_of_files.ensures ∙ c.if-is_full_of_files.false)
    ∙ first_here _ _ _ (sym c.is_full_of_bytes.ensures ∙ c.if-is_full_of_bytes.true))

pub returns-else-is_full_of_bytes-clause-why : goal.returns-else-is_full_of_bytes-clause-why
returns-else-is_full_of_bytes-clause-why g c =
    sym (first_later _ _ _ (sym c.has_file.ensures.shown ∙ c.if-has_file.false)
    ∙ first_later _ _ _ (ap not (sym c.has_all.ensures ∙ c.if-not-has_all.false))
    ∙ first_later _ _ _ (files_test c.args.self.now.catalogue ∙ sym c.is_full_of_files.ensures ∙ c.if-is_full_of_files.false)
    ∙ first_later _ _ _ (sym c.is_full_of_bytes.ensures ∙ c.if-is_full_of_bytes.false))

pub returns-else-is_full_of_bytes-clause-fresh : goal.returns-else-is_full_of_bytes-clause-fresh
returns-else-is_full_of_bytes-clause-fresh g c = sym c.has_file.ensures.named ∙ c.if-has_file.false
