use Rattle.std.proofs.Common.{◌≡◌, ◌∙◌, ◌+◌, ◌<◌, length, add-one, ap, arith, refl, sym}
use Rattle.std.specs.Prelude.{slice_set}
use Rattle.std.proofs.lemmas.List.{length-set}
use Rattle.ov_history.specs.Places.{living_at}
use Rattle.ov_audit.specs.Looks.{looked_behind, looked_by}
use Rattle.ov_audit.specs.Notes.{plain_note, plain_notes}
use Rattle.ov_audit.proofs.NoteLaws.{length-plain, looked_end, looked_step}
use Rattle.ov_audit.proofs.note.look_at_all.Goals as goal

pub loop-i-init : goal.loop-i-init
loop-i-init c = record { many = refl; looked = refl }

pub loop-i-preserved : goal.loop-i-preserved
loop-i-preserved c =
    let s = c.args.state.now.catalogue in
    let held = c.args.marks.now.held.items in
    let covered = c.args.marks.now.covered.items in
    let notes = c.loop-i.notes.items in
    let inside : c.loop-i.i < length notes = omega (arith, c.len-i-end.ensures, c.loop-i.invariant.many) in
    let from_none : c.loop-i.i ≡ 0 + c.loop-i.i = omega arith in
    let made : plain_note c.look.new.self
    ≡ looked_by held covered s.epoch (living_at s.files (0 + c.loop-i.i))
    (plain_note c.index_mut.result.now) =
    c.look.ensures
    ∙ ap (λ o. looked_by held covered c.epoch.result o (plain_note c.index_mut.result.now))
    c.file_at.ensures
    ∙ ap (λ e. looked_by held covered e (living_at s.files c.loop-i.i)
    (plain_note c.index_mut.result.now)) c.epoch.ensures
    ∙ ap (λ n. looked_by held covered s.epoch (living_at s.files n)
    (plain_note c.index_mut.result.now)) from_none in record {
      many = length-set notes c.loop-i.i c.look.new.self ∙ c.loop-i.invariant.many;
      looked =
          ap (λ n. looked_behind held covered s.epoch s.files n 0 (plain_notes (slice_set notes c.loop-i.i c.look.new.self))) (add-one c.loop-i.i)
          ∙ looked_step held covered s.epoch s.files c.loop-i.i 0 notes c.index_mut.result.now
          c.look.new.self inside c.index_mut.ensures.value made
          ∙ c.loop-i.invariant.looked;
    }

pub returns : goal.returns
returns c =
    let s = c.args.state.now.catalogue in
    let notes = c.loop-i.notes.items in
    sym
    (looked_end c.args.marks.now.held.items c.args.marks.now.covered.items s.epoch s.files c.loop-i.i
    0 (plain_notes notes)
    (omega (arith, length-plain notes, c.len-i-end.ensures, c.loop-i.invariant.many)))
    ∙ c.loop-i.invariant.looked
