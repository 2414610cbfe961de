use Rattle.std.proofs.Common.{◌≡◌}
use Rattle.ov_owning.proofs.ByOneBook.{by_one_book}
use Rattle.ov_owning.proofs.owning.own.Goals as goal

pub returns-clause-one_book : goal.returns-clause-one_book
returns-clause-one_book g c =
    by_one_book g.P.Peer.tells g.D.Disk.tells c.args.job.act c.args.job.mode
    (g.K.Source.tells.left c.args.keys.now) (g.B.Source.tells.left c.args.body.now)
    (c.perform-end.new.body ≡ c.args.body.now) c.args.peer.now
    c.perform-end.new.peer c.args.disk c.perform-end.result.1 c.perform-end.result.0
    (g.O.Sink.tells.written c.args.out.now) (g.O.Sink.tells.written c.finish-code.new.out)
    c.finish-code.result c.perform-end.ensures.owns c.finish-code.ensures.puts
