use Rattle.std.proofs.Common.{rules, ◌≤◌, ◌<◌, length, refl, subst}
use Rattle.ov_images.specs.Images.{Keys}
use Rattle.ov_store.specs.Briefs.{TellsGate}
use Rattle.ov_store.specs.Opened.{Opened}
use Rattle.ov_store.proofs.UpdatesAt.{gate_past, gate_there}
use Rattle.ov_store.proofs.store.Store.gate.Goals as goal

pub returns-then-i-count-clause-place : goal.returns-then-i-count-clause-place
returns-then-i-count-clause-place g c =
    let k : Keys = record {
      base_check = c.self.inside.base_check;
      surface = c.self.inside.surface.bytes;
    } in
    let low : c.args.i < length c.self.inside.journal.offsets = search rules in
    subst (λ (s : Opened g.row.D.Denot). TellsGate g.D.Disk.tells s c.args.i c.offset.result)
    c.self.view_is
    (gate_there g.D.Disk.tells c.self.inside.disk k c.self.inside.placed c.self.inside.failed
    c.self.inside.journal c.self.invariant c.args.i c.offset.result low c.offset.ensures.place)

pub returns-else-i-count-clause-place : goal.returns-else-i-count-clause-place
returns-else-i-count-clause-place g c =
    let k : Keys = record {
      base_check = c.self.inside.base_check;
      surface = c.self.inside.surface.bytes;
    } in
    let past : length c.self.inside.journal.offsets ≤ c.args.i = search rules in
    subst (λ (s : Opened g.row.D.Denot). TellsGate g.D.Disk.tells s c.args.i 0) c.self.view_is
    (gate_past g.D.Disk.tells c.self.inside.disk k c.self.inside.placed c.self.inside.failed
    c.self.inside.journal c.self.invariant c.args.i 0 past refl)
