use Rattle.std.proofs.Common.{◌≡◌, Ok, Err, refl, rules}
use Rattle.ov_wire.specs.declared.answer.Answer.TheVariants as answers
use Rattle.ov_wire.specs.RequestReading.{request_of}
use Rattle.ov_server.proofs.Shown.{answers_still, no_frame, still_leaves}
use Rattle.ov_server.proofs.server.Server.answer.Goals as goal

pub returns-in-Ok-clause-any_moment : goal.returns-in-Ok-clause-any_moment
returns-in-Ok-clause-any_moment g c =
    (c.answer_request.ensures c.args.request.now c.in-Ok.ensures.exact).any_moment

pub returns-in-Err-Bad-clause-answer : goal.returns-in-Err-Bad-clause-answer
returns-in-Err-Bad-clause-answer g c =
    let bad : request_of c.args.request.now ≡ Err c.in-Err-Bad.at =
    rw c.in-Err-Bad.field-0-is at c.in-Err-Bad.ensures.exact in
    (answers_still g.D.Disk.tells c.args.self.now c.args.request.now (Err c.in-Err-Bad.at) bad
    (Ok (answers.BadRequest c.in-Err-Bad.at)) c.reply_with.new.reply.items c.reply_with.result refl
    (search rules) (refl, λ u has. absurd (no_frame c.args.self.now c.args.request.now u has c.in-Err-Bad.at bad))
    (c.reply_with.ensures.ok, c.reply_with.ensures.err)).answer

pub returns-in-Err-Bad-clause-any_moment : goal.returns-in-Err-Bad-clause-any_moment
returns-in-Err-Bad-clause-any_moment g c =
    still_leaves g.D.Disk.tells c.args.self.now c.args.request.now

pub returns-in-Err-Memory-clause-any_moment : goal.returns-in-Err-Memory-clause-any_moment
returns-in-Err-Memory-clause-any_moment g c =
    still_leaves g.D.Disk.tells c.args.self.now c.args.request.now
