use Rattle.std.proofs.Common.{◌≡◌, length}
use Rattle.ov_audit.specs.Looks.{looked_all, looked_behind}
use Rattle.ov_audit.specs.Notes.{plain_notes}
use Rattle.ov_audit.proofs.note.look_at_all.Given as goal

abbrev pub invariant-loop-i : goal.invariant-loop-i
invariant-loop-i l =
    let held = l.marks.held.items in
    let covered = l.marks.covered.items in
    let c = l.state.catalogue in record {
      many : length l.notes.items ≡ length l.fn.notes.items;
      looked : looked_behind held covered c.epoch c.files l.i 0 (plain_notes l.notes.items)
          ≡ looked_all held covered c.epoch c.files 0 (plain_notes l.fn.notes.items);
    }
