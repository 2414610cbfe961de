use Rattle.std.proofs.Common.{◌≡◌, false, ◌∙◌, subst}
use Rattle.ov_record.specs.Updates.{sealed_update}
use Rattle.ov_history.specs.Sealed.{with_spelled}
use Rattle.ov_images.specs.Images.{Keeps, Keys, keys}
use Rattle.ov_store_t.proofs.store.callers.begin_and_update.Goals as goal

pub returns-in_ok-_made-in-Ok : goal.returns-in_ok-_made-in-Ok
returns-in_ok-_made-in-Ok g c i told h is_mode image j read x left =
    let found = c.in-Ok.ensures.begun.found i told in
    let made = c.in_ok-_made-in-Ok.ensures.served h (found.each h is_mode image) in
    let still : c.update.new.self.failed ≡ false =
    c.in_ok-_made-in-Ok.ensures.state.failed.0 ∙ c.in-Ok.ensures.begun.new.1 in
    let same : c.update.new.self.keys ≡ keys c.args.base_check c.args.surface.bytes =
    c.update.ensures.call.0 ∙ c.in-Ok.ensures.begun.new.0 in
    subst (λ (k : Keys). Keeps k (with_spelled h (sealed_update c.args.update)) x) same
    (made.disk still j read x left)
