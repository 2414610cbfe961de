use Rattle.std.proofs.Common.{[], get_or}
use Rattle.ov_disk.proofs.Runs.{on_both}
use Rattle.ov_journal.specs.Book.{contents_of}
use Rattle.ov_journal.proofs.Records.{has_record}
use Rattle.ov_journal.proofs.journal.Journal.body.Goals as goal

pub body_at_gate-requires-clause-there : goal.body_at_gate-requires-clause-there
body_at_gate-requires-clause-there g c i is =
    (_, has_record c.args.self.now i.book c.args.i (c.requires.records i is) c.requires.within)

pub returns-clause-bytes : goal.returns-clause-bytes
returns-clause-bytes g c =
    let read = c.body_at_gate.ensures.bytes in
    on_both c.body_at_gate.result _ _ _ read read (λ bytes again i is.
    let body = get_or (contents_of i.book).records.bodies c.args.i [] in
    bytes i is body (has_record c.args.self.now i.book c.args.i (c.requires.records i is) c.requires.within))
