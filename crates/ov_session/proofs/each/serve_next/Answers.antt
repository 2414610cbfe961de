use Rattle.ov_session.specs.Serving.{Session}
use Rattle.ov_session.proofs.Doors.{served_one}
use Rattle.ov_session.proofs.each.serve_next.Goals as goal

pub returns-in-Ok-Some : goal.returns-in-Ok-Some
returns-in-Ok-Some g c =
    let shows = g.D.Door.shows in
    let session : Session g.row.D-Stream.Denot = record {
      given = c.in-Ok-Some.given;
      left = c.serve_alone-end.new.stream;
      ending = c.serve_alone-end.result;
    } in
    record {
      session = session;
      served = c.serve_alone-end.ensures;
      shows = served_one (shows c.args.door.now) (shows c.accept.new.self) (shows c.ended.new.self)
          c.args.number session c.requires
          (rw c.in-Ok-Some.field-0-is at c.in-Ok-Some.ensures) c.ended.ensures;
    }
