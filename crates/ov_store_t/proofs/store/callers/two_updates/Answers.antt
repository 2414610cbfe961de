use Rattle.std.proofs.Common.{◌≡◌, false, Some, sym, ◌∙◌, ap, subst}
use Rattle.ov_record.specs.Updates.{sealed_update}
use Rattle.ov_history.specs.Sealed.{with_spelled}
use Rattle.ov_images.specs.Images.{Keeps, Keys}
use Rattle.ov_store_t.proofs.store.callers.two_updates.Goals as goal

pub returns : goal.returns
returns g c h serves sound i read x left =
    let first = with_spelled h (sealed_update c.args.one) in
    let both = with_spelled first (sealed_update c.args.other) in
    let one = c.in_ok-_first.ensures.served h serves in
    let two = c.in_ok-_second.ensures.served first one in
    let same : c.update-2.new.self.keys ≡ c.args.store.keys =
    c.update-2.ensures.call.0 ∙ c.update.ensures.call.0 in
    let still : c.update-2.new.self.failed ≡ false =
    c.in_ok-_second.ensures.state.failed.0 ∙ c.in_ok-_first.ensures.state.failed.0 ∙ sound in
    let before : g.D.Disk.tells.reads c.update-2.new.self.disk ≡ Some i =
    ap g.D.Disk.tells.reads (sym c.close.ensures) ∙ read in
    subst (λ (k : Keys). Keeps k both x) same
    (two.disk still i before x
    (subst (λ (d : g.row.D.Denot). g.D.Disk.tells.may_leave d x) c.close.ensures left))
