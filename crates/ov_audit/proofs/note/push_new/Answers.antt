use Rattle.std.proofs.Common.{◌∙◌, ◌++◌, ◌∷◌, [], ap, arith, sym}
use Rattle.std.specs.Prelude.{option_map}
use Rattle.ov_exposure.specs.Auditing.{Note}
use Rattle.ov_state.specs.Entries.{plain_file}
use Rattle.ov_audit.specs.Looks.{note_of}
use Rattle.ov_audit.specs.Notes.{plain_notes}
use Rattle.ov_audit.proofs.NoteLaws.{length-plain, new_pushed, none_pushed, plain-push}
use Rattle.ov_audit.proofs.note.push_new.Goals as goal

pub overflow_cast-len : goal.overflow_cast-len
overflow_cast-len c = record {
  fits = omega (
    arith,
    c.len.ensures,
    length-plain c.args.notes.now.items,
    c.requires.noted,
    c.known.ensures.files,
  );
}

pub returns-in_ok-push-in-Some-clause-noted : goal.returns-in_ok-push-in-Some-clause-noted
returns-in_ok-push-in-Some-clause-noted c =
    let s = c.args.state.now.catalogue in
    let notes = plain_notes c.args.notes.now.items in
    ap plain_notes c.in_ok-push-in-Some.ensures.items
    ∙ plain-push c.args.notes.now.items c.new.result
    ∙ ap (λ (note : Note). notes ++ note ∷ [])
    (c.new.ensures ∙ ap (λ made. note_of made (plain_file c.in-Some.file.now)) c.epoch.ensures)
    ∙ sym
    (new_pushed s notes c.len.result (plain_file c.in-Some.file.now)
    (omega (arith, c.len.ensures, length-plain c.args.notes.now.items))
    (sym c.file_at.ensures ∙ ap (option_map (λ f. plain_file f.now)) c.in-Some.is))

pub returns-in-None-clause-noted : goal.returns-in-None-clause-noted
returns-in-None-clause-noted c =
    let s = c.args.state.now.catalogue in
    sym
    (none_pushed s (plain_notes c.args.notes.now.items) c.len.result
    (omega (arith, c.len.ensures, length-plain c.args.notes.now.items))
    (sym c.file_at.ensures ∙ ap (option_map (λ f. plain_file f.now)) c.in-None.is))
