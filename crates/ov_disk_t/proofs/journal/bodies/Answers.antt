use Rattle.std.proofs.Common.{sym, ◌∙◌}
use Rattle.ov_journal.proofs.Logs.{all_first}
use Rattle.ov_disk_t.proofs.journal.bodies.Goals as goal

pub body-requires-clause-records : goal.body-requires-clause-records
body-requires-clause-records g c i is = all_first _ _ (c.requires i (sym c.records.invariant ∙ is))
