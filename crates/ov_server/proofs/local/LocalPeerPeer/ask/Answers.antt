use Rattle.std.proofs.Common.{Ok, subst}
use Rattle.std.specs.Prelude.{OnOk}
use Rattle.ov_store.specs.Opened.{Opened}
use Rattle.ov_server.specs.Answering.{AsksServer}
use Rattle.ov_wire.specs.Frames.{IsFrame}
use Rattle.ov_server.proofs.AskedOnce.{asked_at, frame_at, nothing_at}
use Rattle.ov_server.proofs.local.LocalPeerPeer.ask.Goals as goal
use Rattle.ov_server.proofs.local.LocalPeerPeer.ask.Goals.{in-Ok, in-Err}

pub returns-clause-asked : goal.returns-clause-asked
returns-clause-asked g c =
    let P : Opened g.row.D.Denot → Type 0 =
    λ old. AsksServer g.D.Disk.tells old c.answer.new.self c.args.request.now
    c.answer.new.reply.items (Ok tt) in
    subst (λ old. OnOk c.match-answer.result (P old)) c.self.view_is
    (elim c.match-answer.branch [
      | in-Ok w ↦
          asked_at g.D.Disk.tells c.self.inside.server c.answer.new.self c.args.request.now
          c.answer.new.reply.items c.answer.result c.answer.ensures.answer
          c.answer.ensures.any_moment c.answer.ensures.call _ w.in-Ok.is c.match-answer.result _
          w.result-is
      | in-Err w ↦ nothing_at (P c.self.inside.server) c.match-answer.result _ w.result-is
    ])

pub returns-clause-frame : goal.returns-clause-frame
returns-clause-frame g c =
    elim c.match-answer.branch [
      | in-Ok w ↦
          frame_at g.D.Disk.tells c.self.inside.server c.answer.new.self c.args.request.now
          c.answer.new.reply.items c.answer.result c.answer.ensures.answer
          c.answer.ensures.any_moment c.answer.ensures.call _ w.in-Ok.is c.match-answer.result _
          w.result-is
      | in-Err w ↦ nothing_at (IsFrame c.answer.new.reply.items) c.match-answer.result _ w.result-is
    ]
