use Rattle.std.proofs.Common.{◌∙◌, ap}
use Rattle.ov_history.specs.Catalogue.{Catalogue}
use Rattle.ov_state.specs.Changes.{applied}
use Rattle.ov_replaying.proofs.reading.make.Goals as goal

pub returns-in-Ok : goal.returns-in-Ok
returns-in-Ok c = (
  c.in-Ok.ensures.change.taken,
  c.commit.ensures.applied
      ∙ ap (λ (x : Catalogue). applied x c.in-Ok.change) c.in-Ok.ensures.same
      ∙ c.in-Ok.ensures.change.made,
)
