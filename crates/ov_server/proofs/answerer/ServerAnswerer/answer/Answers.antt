use Rattle.ov_server.proofs.Following.{accepted_ok, frame_ok, reached_ok, replies_ok}
use Rattle.ov_server.proofs.Sticking.{stays_stuck}
use Rattle.ov_server.proofs.answerer.ServerAnswerer.answer.Goals as goal

pub returns-clause-frame : goal.returns-clause-frame
returns-clause-frame g c =
    frame_ok g.D.Disk.tells c.args.self.now c.answer.new.self c.args.request.now
    c.answer.new.reply.items c.answer.result c.answer.ensures.answer

pub returns-clause-accepted : goal.returns-clause-accepted
returns-clause-accepted g c =
    accepted_ok g.D.Disk.tells c.args.self.now c.answer.new.self c.args.request.now
    c.answer.new.reply.items c.answer.result c.answer.ensures.answer

pub returns-clause-replies : goal.returns-clause-replies
returns-clause-replies g c =
    replies_ok g.D.Disk.tells c.args.self.now c.answer.new.self c.args.request.now
    c.answer.new.reply.items c.answer.result c.answer.ensures.answer

pub returns-clause-reached : goal.returns-clause-reached
returns-clause-reached g c =
    reached_ok g.D.Disk.tells c.args.self.now c.answer.new.self c.args.request.now
    c.answer.new.reply.items c.answer.result c.answer.ensures.answer

pub returns-clause-stuck : goal.returns-clause-stuck
returns-clause-stuck g c =
    stays_stuck g.D.Disk.tells c.args.self.now c.answer.new.self c.args.request.now
    c.answer.new.reply.items _ (λ s bad. bad) (λ s bad. bad) c.answer.result
    c.answer.ensures.answer c.answer.ensures.memory
