use Rattle.std.proofs.Common.{◌∙◌, ap, sym}
use Rattle.std.specs.Prelude.{is_some}
use Rattle.ov_history.specs.Places.{living_at}
use Rattle.ov_history.proofs.SoundTests.{is_some-map}
use Rattle.ov_state.specs.Contents.{Held}
use Rattle.ov_state.proofs.state.State.is_file.Goals as goal

pub returns : goal.returns
returns g c =
    c.is_some.ensures ∙ sym (is_some-map _ c.get.result) ∙ ap is_some c.get.ensures
    ∙ ap (λ (h : Held). is_some (living_at h.catalogue.files c.args.file)) c.self.view_is
