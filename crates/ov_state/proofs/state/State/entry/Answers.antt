use Rattle.std.proofs.Common.{◌∙◌, ap, sym, Bor}
use Rattle.std.specs.Prelude.{option_map}
use Rattle.ov_history.specs.Places.{living_at}
use Rattle.ov_state.specs.Contents.{Held}
use Rattle.ov_state.specs.Entries.{plain_file}
use Rattle.ov_state.specs.declared.files.FileEntry.{FileEntry}
use Rattle.ov_state.proofs.state.State.entry.Goals as goal

pub returns-clause-placed : goal.returns-clause-placed
returns-clause-placed g c =
    c.known.ensures.sound.files c.args.file _
    (ap (λ (h : Held). living_at h.catalogue.files c.args.file) (sym c.self.view_is)
    ∙ sym c.get.ensures
    ∙ ap (option_map (λ (f : Bor FileEntry). plain_file f.now)) c.in-Some.is)
