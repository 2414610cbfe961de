-- Findings as an audit gives them, in the words of what has been given away.
use Rattle.std.specs.Prelude.{ℕ, List, [], ◌∷◌}
use Rattle.ov_audit.specs.declared.finding.Cause.{Cause}
use Rattle.ov_audit.specs.declared.finding.Cause.TheVariants.{Listed, Bare, Server}
use Rattle.ov_audit.specs.declared.finding.Finding.{Finding}
use Rattle.ov_exposure.specs.Exposure.{Bare as PlainBare, Cause as PlainCause}
use Rattle.ov_exposure.specs.Exposure.{Listed as PlainListed, Server as PlainServer}
use Rattle.ov_exposure.specs.Auditing.{Finding as PlainFinding}

-- a cause
abbrev pub plain_cause : Cause → PlainCause
plain_cause Listed = PlainListed
plain_cause Bare = PlainBare
plain_cause Server = PlainServer

-- a cause, and since which epoch
abbrev pub plain_why : Cause × ℕ → PlainCause × ℕ
plain_why why = (plain_cause why.0, why.1)

-- a finding
abbrev pub plain_finding : Finding → PlainFinding
plain_finding finding = record {
  file = finding.file;
  name = finding.name;
  cause = plain_cause finding.cause;
  epoch = finding.epoch;
}

-- all findings
abbrev pub plain_findings : List Finding → List PlainFinding
plain_findings [] = []
plain_findings (finding ∷ findings) = plain_finding finding ∷ plain_findings findings
