use Rattle.std.proofs.Common.{Ok, Err, true, refl, ◌∙◌, subst, sym, [], List, ℕ}
use Rattle.ov_images.specs.Images.{keys}
use Rattle.ov_report.proofs.Opening.{faulted_so}
use Rattle.ov_host.specs.Lasting.{store_tells}
use Rattle.ov_host.proofs.Endings.{faulted_open, serves_open}
use Rattle.ov_host.proofs.Served.{served_disk, store_served}
use Rattle.ov_host.proofs.hosting.host.Goals as goal

pub returns-in-Ok-clause-hosts : goal.returns-in-Ok-clause-hosts
returns-in-Ok-clause-hosts g c =
    let begun = c.in-Ok.ensures in (
      Ok c.in-Ok.store,
      begun,
      store_served g.D.Disk.tells g.A.Stream.Source.tells g.A.Stream.Sink.tells
          (keys c.args.settings.now.base_check c.args.settings.now.surface.bytes) c.args.settings.now.mode
          c.args.disk c.in-Ok.store c.serve_value-status.result.1 c.args.settings.now.workers
          (g.A.Door.shows c.args.door.now) (g.A.Door.shows c.serve_value-status.new.door)
          c.args.spawner.now c.serve_value-status.new.spawner c.args.settings.now.sessions
          (g.O.Sink.tells.written c.args.out.now) (g.O.Sink.tells.written c.serve_value-status.new.out)
          (record { status = c.serve_value-status.result.0; begun = true; disk = c.close-disk.result }) begun.opened begun.any_moment
          refl c.close-disk.ensures c.new-server.result (c.new-server.ensures.same ∙ c.new.ensures)
          c.serve_value-status.ensures.serves,
    )

pub returns-in-Ok-clause-disk : goal.returns-in-Ok-clause-disk
returns-in-Ok-clause-disk g c =
    let begun = c.in-Ok.ensures in
    let served = store_served g.D.Disk.tells g.A.Stream.Source.tells g.A.Stream.Sink.tells
    (keys c.args.settings.now.base_check c.args.settings.now.surface.bytes) c.args.settings.now.mode
    c.args.disk c.in-Ok.store c.serve_value-status.result.1 c.args.settings.now.workers
    (g.A.Door.shows c.args.door.now) (g.A.Door.shows c.serve_value-status.new.door)
    c.args.spawner.now c.serve_value-status.new.spawner c.args.settings.now.sessions
    (g.O.Sink.tells.written c.args.out.now) (g.O.Sink.tells.written c.serve_value-status.new.out)
    (record { status = c.serve_value-status.result.0; begun = true; disk = c.close-disk.result }) begun.opened begun.any_moment
    refl c.close-disk.ensures c.new-server.result (c.new-server.ensures.same ∙ c.new.ensures)
    c.serve_value-status.ensures.serves in
    served_disk g.D.Disk.tells g.A.Stream.Source.tells g.A.Stream.Sink.tells _ _ _ _ _ _ _ _ _ _ _ _ _ _ served begun.call

pub returns-in-Ok-clause-opens : goal.returns-in-Ok-clause-opens
returns-in-Ok-clause-opens g c = λ i told stands.
    serves_open (store_tells g.D.Disk.tells) g.A.Stream.Source.tells g.A.Stream.Sink.tells _ _ _ _ _ _ _ _ _ _ _ c.serve_value-status.ensures.serves

pub returns-in-Err-clause-hosts : goal.returns-in-Err-clause-hosts
returns-in-Err-clause-hosts g c =
    let handed = c.hand_back.ensures in (
      Err c.in-Err.refused,
      c.in-Err.ensures,
      (record { begun = handed.begun; disk = handed.disk; door = refl; ends = handed.ends }, refl),
    )

pub returns-in-Err-clause-opens : goal.returns-in-Err-clause-opens
returns-in-Err-clause-opens g c = λ i told stands.
    let (h, mode_is, opens) = stands in
    faulted_open c.in-Err.refused.fault _ _ _ c.hand_back.ensures.ends
    (faulted_so (keys c.args.settings.now.base_check c.args.settings.now.surface.bytes)
    c.args.settings.now.mode h i mode_is c.in-Err.refused.fault c.hand_back.ensures.known opens
    (c.in-Err.ensures.fault i told))
