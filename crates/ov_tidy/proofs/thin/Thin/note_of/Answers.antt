use Rattle.std.proofs.Common.{◌<◌, ◌≤◌, List, length, ◌∙◌, ap, arith}
use Rattle.std.specs.Prelude.{Option}
use Rattle.std.proofs.lemmas.Bool.Decides.{nat_tests}
use Rattle.ov_history.specs.Places.{living_at}
use Rattle.ov_thinning.specs.Notes.{Thinning}
use Rattle.ov_tidy.specs.Thins.{plain_notes}
use Rattle.ov_tidy.specs.declared.note.Last.{Last}
use Rattle.ov_tidy.proofs.Files.{note_is, note_none}
use Rattle.ov_tidy.proofs.thin.Thin.note_of.Goals as goal

pub returns-in-Some : goal.returns-in-Some
returns-in-Some c =
    let xs = c.deref.result.now in
    let low : c.args.file < length xs = grind (arith, nat_tests, c.in-Some.ensures.lookup.0) in
    note_is xs c.args.file c.in-Some.note.now c.in-Some.note.now low c.in-Some.ensures.lookup.1
    ∙ ap (λ (ys : List (Option Last)). living_at (plain_notes ys) c.args.file) c.deref.ensures.value
    ∙ ap (λ (t : Thinning). living_at t.notes c.args.file) c.self.view_is

pub returns-in-None : goal.returns-in-None
returns-in-None c =
    let xs = c.deref.result.now in
    let past : length xs ≤ c.args.file = grind (arith, nat_tests, c.in-None.ensures.lookup.0) in
    note_none xs c.args.file past
    ∙ ap (λ (ys : List (Option Last)). living_at (plain_notes ys) c.args.file) c.deref.ensures.value
    ∙ ap (λ (t : Thinning). living_at t.notes c.args.file) c.self.view_is
