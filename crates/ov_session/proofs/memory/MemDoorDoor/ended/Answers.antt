use Rattle.std.proofs.Common.{◌≡◌, ◌<◌, get_or, length, rules, arith}
use Rattle.std.proofs.lemmas.Grind.{common_steps}
use Rattle.ov_session.specs.Memory.{all_seen}
use Rattle.ov_session.proofs.Doors.{shows_back}
use Rattle.ov_session.proofs.memory.MemDoorDoor.ended.Goals as goal

pub returns : goal.returns
returns c =
    let k = c.args.self.now in
    let items = c.self.inside.gave.items in
    let same : k.gave ≡ all_seen items = search rules in
    let shut : k.closed ≡ c.self.inside.closed = search rules in
    let count : k.faults ≡ c.self.inside.faults = search rules in
    let lt : c.args.number < length items = grind (arith, common_steps) in
    let is : c.index_mut.result.now ≡ get_or items c.args.number c.index_mut.result.now = c.index_mut.ensures.value in
    shows_back k items c.self.inside.closed c.self.inside.faults c.args.number c.index_mut.result.now
    (record { stream = c.args.stream; ending = c.args.end }) same shut count lt is
