use Rattle.std.proofs.Common.{◌∙◌, ap, List}
use Rattle.std.specs.Prelude.{Option}
use Rattle.ov_history.specs.Places.{living_at}
use Rattle.ov_state.specs.Entries.{plain_files, FileList}
use Rattle.ov_state.specs.declared.files.FileEntry.{FileEntry}
use Rattle.ov_state.proofs.files.Files.get.Goals as goal

pub returns : goal.returns
returns c =
    c.entry_at.ensures
    ∙ ap (λ (fs : List (Option FileEntry)). living_at (plain_files fs) c.args.file) c.deref.ensures.value
    ∙ ap (λ (l : FileList). living_at l.files c.args.file) c.self.view_is
