use Rattle.std.proofs.Common.{◌≡◌, ◌++◌, drop}
use Rattle.ov_exposure.specs.Auditing.{findings_from}
use Rattle.ov_audit.specs.Findings.{plain_findings}
use Rattle.ov_audit.specs.Notes.{plain_notes}
use Rattle.ov_audit.proofs.audit.Audit.findings.Given as goal

abbrev pub invariant-loop-i : goal.invariant-loop-i
invariant-loop-i l =
    plain_findings l.list.items
    ++ findings_from l.self-inside.server l.i (plain_notes (drop l.i l.self-inside.notes.items))
    ≡ findings_from l.self.server 0 l.self.notes
