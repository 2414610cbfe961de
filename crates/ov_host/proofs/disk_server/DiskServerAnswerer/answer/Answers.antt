use Rattle.std.proofs.Common.{subst, sym}
use Rattle.ov_peer.specs.Tells.{StaysStuck}
use Rattle.ov_store.specs.Opened.{Opened}
use Rattle.ov_server.proofs.Following.{accepted_ok, frame_ok}
use Rattle.ov_server.proofs.Sticking.{stays_stuck}
use Rattle.ov_host.specs.Lasting.{StoreGoesOn, store_tells}
use Rattle.ov_host.proofs.Lasting.{goes_on_err, goes_on_ok, replies_after}
use Rattle.ov_host.proofs.disk_server.DiskServerAnswerer.answer.Goals as goal

pub returns-clause-frame : goal.returns-clause-frame
returns-clause-frame g c =
    frame_ok g.D.Disk.tells _ _ _ _ c.answer.result c.answer.ensures.answer

pub returns-clause-accepted : goal.returns-clause-accepted
returns-clause-accepted g c =
    accepted_ok g.D.Disk.tells _ _ _ _ c.answer.result c.answer.ensures.answer

pub returns-clause-replies : goal.returns-clause-replies
returns-clause-replies g c = λ start list before.
    replies_after g.D.Disk.tells _ _ _ _ c.answer.result c.answer.ensures.answer
    start list (subst (λ (s : Opened g.row.D.Denot). StoreGoesOn g.D.Disk.tells start list s) (sym c.self.view_is) before)

pub returns-clause-reached : goal.returns-clause-reached
returns-clause-reached g c = λ start list before.
    goes_on_ok g.D.Disk.tells _ _ _ _ c.answer.result c.answer.ensures.answer
    c.answer.ensures.any_moment c.answer.ensures.call
    start list (subst (λ (s : Opened g.row.D.Denot). StoreGoesOn g.D.Disk.tells start list s) (sym c.self.view_is) before)

pub returns-clause-kept : goal.returns-clause-kept
returns-clause-kept g c = λ start list before.
    goes_on_err g.D.Disk.tells _ _ c.args.request.now _ c.answer.result c.answer.ensures.memory
    start list (subst (λ (s : Opened g.row.D.Denot). StoreGoesOn g.D.Disk.tells start list s) (sym c.self.view_is) before)

pub returns-clause-stuck : goal.returns-clause-stuck
returns-clause-stuck g c =
    let tells = store_tells g.D.Disk.tells in
    subst (λ (s : Opened g.row.D.Denot). StaysStuck tells s c.answer.new.self c.args.request.now
    c.answer.new.reply.items c.answer.result)
    c.self.view_is
    (stays_stuck g.D.Disk.tells _ c.answer.new.self c.args.request.now c.answer.new.reply.items tells
    (λ s bad. bad) (λ s bad. bad) c.answer.result c.answer.ensures.answer c.answer.ensures.memory)
