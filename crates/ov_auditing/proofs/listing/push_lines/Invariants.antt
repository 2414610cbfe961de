use Rattle.std.proofs.Common.{◌≡◌, ◌++◌, take}
use Rattle.ov_audit.specs.Findings.{plain_findings}
use Rattle.ov_auditing.specs.Lines.{finding_lines}
use Rattle.ov_auditing.proofs.listing.push_lines.Given as goal

abbrev pub invariant-loop-finding : goal.invariant-loop-finding
invariant-loop-finding l =
    l.text.items
    ≡ l.fn.text.items ++ finding_lines (plain_findings (take l.finding-index l.findings))
