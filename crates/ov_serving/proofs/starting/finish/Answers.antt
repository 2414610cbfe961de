use Rattle.std.proofs.Common.{rules, ◌≡◌, ◌∙◌, ◌∷◌, ◌++◌, ◌<◌, List, ap, arith, drop, length, map, sym, take, suc}
use Rattle.std.proofs.lemmas.List.{length-map, map-append}
use Rattle.std.proofs.Math.Seq.{split_at}
use Rattle.ov_serving.specs.Slots.{session_in, sessions_in}
use Rattle.ov_serving.specs.Spawning.{SpawnerState}
use Rattle.ov_serving.proofs.starting.finish.Goals as goal

pub returns : goal.returns
returns g c =
    let State = SpawnerState g.row.L.Denot g.row.V.Denot g.row.G.Denot in
    let items = c.spawner.inside.started.items in
    let place = c.wait_for_one-place.result in
    let slot = c.remove-slot.result in
    let before = take place items in
    let behind = drop (suc place) items in
    let shown : sessions_in items ≡ c.args.spawner.now.started =
    ap (λ (s : State). s.started) c.spawner.view_is in
    let many : length (sessions_in items) ≡ length items = length-map items session_in in
    let within : place < length c.args.spawner.now.started = c.wait_for_one-place.ensures in
    let inside : place < length items = omega (arith, ap length shown, many, within) in
    let split : items ≡ before ++ slot ∷ behind =
    split_at items place slot inside
    ∙ ap (λ x. before ++ x ∷ behind) (sym c.remove-slot.ensures.value) in
    let listed : sessions_in items ≡ sessions_in before ++ session_in slot ∷ sessions_in behind =
    ap sessions_in split ∙ map-append session_in before (slot ∷ behind) in
    let left : sessions_in c.remove-slot.new.self.items ≡ sessions_in before ++ sessions_in behind =
    ap sessions_in c.remove-slot.ensures.items ∙ map-append session_in before behind in (
      sessions_in before,
      session_in slot,
      sessions_in behind,
      sym shown ∙ listed,
      c.end_of.ensures,
      ap (λ l. record {
        started = l;
        most = c.spawner.inside.most;
        refused = c.spawner.inside.refused;
        refuses = c.spawner.inside.refuses;
      }) left
          ∙ ap (λ (s : State). record s { started = sessions_in before ++ sessions_in behind })
          c.spawner.view_is,
    )
