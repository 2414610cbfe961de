use Rattle.std.proofs.Common.{ℕ, List, Vec, Global, ◌∙◌, ap, arith, refl, subst}
use Rattle.ov_record.specs.Updates.{sealed_update}
use Rattle.ov_history.specs.Catalogue.{Catalogue}
use Rattle.ov_store.specs.Opened.{Opened}
use Rattle.ov_peer.specs.Disks.{HasUpdate}
use Rattle.ov_server.specs.Answering.{AsksServer, serving_of}
use Rattle.ov_server.proofs.Shown.{forgot_by, put_is, puts_same}
use Rattle.ov_server.proofs.Making.{err_is, on_bad_plan, on_disk, on_failed, on_made, on_memory, on_refused}
use Rattle.ov_server.proofs.server.Server.make.Goals as goal
use Rattle.ov_server.proofs.server.Server.make.Goals.{in-Ok, in-Err-Refused, in-Err-BadPlan, in-Err-Disk, in-Err-Failed, in-Err-Memory}

pub returns-in_err-reply_with : goal.returns-in_err-reply_with
returns-in_err-reply_with g c =
    λ request has.
    forgot_by g.D.Disk.tells c.args.self.now request c.reply_with.new.reply.items
    c.from_residual.result c.from_residual.ensures.0 c.in_err-reply_with.ensures.err

pub returns : goal.returns
returns g c =
    let old = c.self.inside.store in
    let new = c.update.new.self in
    let u = sealed_update c.args.update in
    let e = c.update.ensures in
    let reply : List ℕ = c.match-update-2.reply.items in
    let last = c.match-update-2.result in
    let P : Opened g.row.D.Denot → Type 0 =
    λ o. (request : List ℕ) → HasUpdate (serving_of o) request u
    → AsksServer g.D.Disk.tells o new request reply last in
    subst P c.self.view_is (λ request has. elim c.match-update-2.branch [
      | in-Ok w ↦
          on_made g.D.Disk.tells old new request u has
          c.update.result e.answer e.state e.any_moment e.served e.told e.call reply last w.in-Ok.field-0 c.saturating_add-epoch.result _ w.in-Ok.is w.result-is
          (ap (λ (v : Vec ℕ Global). v.items) w.reply-is ∙ put_is _ _ c.reply_with.new.reply.items refl c.in_ok-reply_with.ensures.ok)
          (omega (
            arith,
            c.saturating_add-epoch.ensures,
            c.epoch.ensures,
            ap (λ (k : Catalogue). k.epoch) c.state.ensures,
          ))
      | in-Err-Refused w ↦
          on_refused g.D.Disk.tells old new request u has
          c.update.result e.answer e.state e.any_moment e.served e.told e.call reply last w.in-Err-Refused.refusal
          (err_is c.update.result w.in-Err-Refused.field-0 _ w.in-Err-Refused.is w.in-Err-Refused.field-0-is)
          (puts_same _ w.reply_with-in-Err-Refused.new.reply.items reply w.reply_with-in-Err-Refused.result last
          (w.reply_with-in-Err-Refused.ensures.ok, w.reply_with-in-Err-Refused.ensures.err) (ap (λ (v : Vec ℕ Global). v.items) w.reply-is) w.result-is)
      | in-Err-BadPlan w ↦
          on_bad_plan g.D.Disk.tells old new request u has
          c.update.result e.answer e.state e.any_moment e.served e.told e.call reply last w.in-Err-BadPlan.at
          (err_is c.update.result w.in-Err-BadPlan.field-0 _ w.in-Err-BadPlan.is w.in-Err-BadPlan.field-0-is) c.requires
          (puts_same _ w.reply_with-in-Err-BadPlan.new.reply.items reply w.reply_with-in-Err-BadPlan.result last
          (w.reply_with-in-Err-BadPlan.ensures.ok, w.reply_with-in-Err-BadPlan.ensures.err) (ap (λ (v : Vec ℕ Global). v.items) w.reply-is) w.result-is)
      | in-Err-Disk w ↦
          on_disk g.D.Disk.tells old new request u has
          c.update.result e.answer e.state e.any_moment e.served e.told e.call reply last _ (err_is c.update.result w.in-Err-Disk.field-0 _ w.in-Err-Disk.is w.in-Err-Disk.field-0-is) w.result-is
          (ap (λ (v : Vec ℕ Global). v.items) w.reply-is ∙ w.reply_fault.ensures)
      | in-Err-Failed w ↦
          on_failed g.D.Disk.tells old new request u has
          c.update.result e.answer e.state e.any_moment e.served e.told e.call reply last _ (err_is c.update.result w.in-Err-Failed.field-0 _ w.in-Err-Failed.is w.in-Err-Failed.field-0-is) w.result-is
          (ap (λ (v : Vec ℕ Global). v.items) w.reply-is ∙ w.reply_fault-in-Err-Failed.ensures)
      | in-Err-Memory w ↦
          on_memory g.D.Disk.tells old new request u has
          c.update.result e.answer e.state e.any_moment e.served e.told e.call reply last _ (err_is c.update.result w.in-Err-Memory.field-0 _ w.in-Err-Memory.is w.in-Err-Memory.field-0-is)
          (puts_same _ w.reply_with-in-Err-Memory.new.reply.items reply w.reply_with-in-Err-Memory.result last
          (w.reply_with-in-Err-Memory.ensures.ok, w.reply_with-in-Err-Memory.ensures.err) (ap (λ (v : Vec ℕ Global). v.items) w.reply-is) w.result-is)
    ])
