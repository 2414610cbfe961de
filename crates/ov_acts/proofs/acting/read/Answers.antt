use Rattle.std.proofs.Common.{Ok, Err, ap, refl}
use Rattle.ov_acts.proofs.Reading.{reader_told}
use Rattle.ov_acts.proofs.acting.read.Goals as goal

pub returns-in-Ok-fetch-clause-told : goal.returns-in-Ok-fetch-clause-told
returns-in-Ok-fetch-clause-told g c = λ v is.
    reader_told c.lines_are_read_once.ensures c.in-Ok.client c.args.file.now
    (g.K.Source.tells.left c.args.keys.now) (Ok c.in-Ok-fetch.bytes) (Ok c.in-Ok-fetch.bytes) v
    (g.P.Peer.tells.serves c.fetch.new.peer) c.in-Ok.ensures.found (c.in-Ok-fetch.ensures.told v is)
    refl

pub returns-in-Err-fetch-clause-told : goal.returns-in-Err-fetch-clause-told
returns-in-Err-fetch-clause-told g c = λ v is.
    reader_told c.lines_are_read_once.ensures c.in-Ok.client c.args.file.now
    (g.K.Source.tells.left c.args.keys.now) (Err c.in-Err-fetch.fault) (Err c.stop_of_client.result)
    v (g.P.Peer.tells.serves c.fetch.new.peer) c.in-Ok.ensures.found
    (c.in-Err-fetch.ensures.told v is) (ap Err c.stop_of_client.ensures)
