use Rattle.std.proofs.Common.{◌<◌, ◌≤◌, length, arith}
use Rattle.std.specs.Prelude.{option_map}
use Rattle.std.proofs.lemmas.Bool.Decides.{nat_tests}
use Rattle.ov_tidy.specs.Thins.{plain_last}
use Rattle.ov_tidy.proofs.Namings.{plain_past, plain_set}
use Rattle.ov_tidy.proofs.marks.set_note.Goals as goal

pub returns-then-file-len-clause-notes : goal.returns-then-file-len-clause-notes
returns-then-file-len-clause-notes c =
    let low : c.args.file < length c.args.notes.now.items = grind (arith, nat_tests, c.if-file-len.true, c.len.ensures) in
    plain_set c.args.notes.now.items c.args.file c.args.note low

pub returns-else-file-len-clause-notes : goal.returns-else-file-len-clause-notes
returns-else-file-len-clause-notes c =
    let past : length c.args.notes.now.items ≤ c.args.file = grind (arith, nat_tests, c.if-file-len.false, c.len.ensures) in
    plain_past c.args.notes.now.items c.args.file (option_map plain_last c.args.note) past
