use Rattle.std.proofs.Common.{◌≡◌, ◌∙◌, ℕ, ◌<◌, ◌^◌, List, [], get_or, length, refl, ap, subst, sym, arith, take}
use Rattle.std.specs.Prelude.{None}
use Rattle.std.proofs.lemmas.List.{get_or_read}
use Rattle.std.proofs.lemmas.Result.{err_from_is_err_and}
use Rattle.ov_images.specs.Damage.{HasBadRecord}
use Rattle.ov_journal.specs.Runs.{end_from}
use Rattle.ov_record.specs.Forms.{second_form}
use Rattle.ov_placed.specs.Faults.{IsBadFor, NamesSpot}
use Rattle.ov_placed.specs.Replaying.{TakesRecord}
use Rattle.ov_placed.specs.declared.fault.ReplayFault.{ReplayFault}
use Rattle.ov_placed.proofs.Replays.{replay_none}
use Rattle.ov_placed_t.proofs.Gates.{all_replayed, end-more, next-ends, next_replayed, next_stops, second_of}
use Rattle.ov_placed_t.proofs.replaying.replay_all.Goals as goal

pub loop-body-init : goal.loop-body-init
loop-body-init c = record {
  replay = replay_none c.args.surface.now.bytes c.args.mode c.args.first c.args.blocks None
      c.in_ok-replayed.replayed c.in_ok-replayed.ensures.catalogue c.in_ok-replayed.ensures.placed;
  gate = λ low. refl;
}

pub loop-body-preserved : goal.loop-body-preserved
loop-body-preserved c =
    let bodies : List (List ℕ) = c.args.bodies.now in
    let i : ℕ = c.loop-body.body-index in
    let body : List ℕ = get_or bodies i [] in
    let same : c.as_slice-body.result.now ≡ body =
    c.as_slice-body.ensures
    ∙ get_or_read bodies i c.body-item.result c.loop-body-test.true c.body-item.is [] in
    record {
      replay = next_replayed bodies i [] c.loop-body-test.true c.args.surface.now.bytes c.args.mode
          c.args.first c.args.blocks c.loop-body.replayed c.loop-body.invariant.replay
          c.replay.new.self
          (subst (λ (l : List ℕ). TakesRecord c.args.surface.now.bytes second_form c.args.blocks
          c.loop-body.replayed l c.replay.new.self) same c.in_ok-replay.ensures.taken);
      gate = λ low.
          let before : c.loop-body.gate ≡ end_from 78 (take i bodies) =
          c.loop-body.invariant.gate low in
          let more = end-more bodies i [] c.loop-body-test.true in
          let ends = next-ends bodies i [] c.loop-body-test.true in
          let long : length c.as_slice-body.result.now ≡ length body =
          ap (λ (l : List ℕ). length l) same in
          let one = c.saturating_add.ensures in
          let two = c.saturating_add-gate.ensures in
          omega (arith, low, before, more, ends, long, one, two);
    }

pub returns-in_err-replay-clause-fault : goal.returns-in_err-replay-clause-fault
returns-in_err-replay-clause-fault c =
    let bodies : List (List ℕ) = c.args.bodies.now in
    let i : ℕ = c.loop-body.body-index in
    let body : List ℕ = get_or bodies i [] in
    let same : c.as_slice-body.result.now ≡ body =
    c.as_slice-body.ensures
    ∙ get_or_read bodies i c.body-item.result c.loop-body-test.true c.body-item.is [] in
    let master = c.args.surface.now.bytes in
    let p = err_from_is_err_and c.from_residual-in_err-replay.result
    c.from_residual-in_err-replay.ensures.1 in
    rw p.1 (subst (λ (fault : ReplayFault). NamesSpot (λ spot. end_from 78 bodies < 2 ^ 64
    → HasBadRecord master c.args.mode c.args.first c.args.blocks (second_of bodies) spot) fault) (sym p.2)
    (next_stops bodies i [] c.loop-body-test.true master c.args.mode c.args.first c.args.blocks
    c.loop-body.replayed c.loop-body.invariant.replay c.loop-body.gate c.in_err-replay.field-0.0
    c.loop-body.invariant.gate
    (subst (λ (l : List ℕ). NamesSpot (IsBadFor second_form c.args.blocks
    c.loop-body.replayed.catalogue c.loop-body.replayed.placed l c.loop-body.gate)
    c.in_err-replay.field-0.0) same c.in_err-replay.ensures.fault)))

pub returns-clause-made : goal.returns-clause-made
returns-clause-made c =
    all_replayed c.args.surface.now.bytes c.args.mode c.args.first c.args.blocks c.args.bodies.now
    c.loop-body.body-index c.loop-body.replayed (omega arith) c.loop-body.invariant.replay
