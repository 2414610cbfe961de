use Rattle.std.proofs.Common.{◌∙◌, ap, sym}
use Rattle.std.specs.Prelude.{option_map}
use Rattle.ov_audit.specs.Findings.{plain_findings, plain_why}
use Rattle.ov_audit.proofs.FindingLaws.{nothing_found, something_found}
use Rattle.ov_audit.proofs.finding.push_found.Goals as goal

pub returns-in_ok-push-in-Some : goal.returns-in_ok-push-in-Some
returns-in_ok-push-in-Some c =
    something_found c.args.list.now.items c.args.file c.args.note.now c.args.server c.in-Some.cause
    c.in-Some.epoch c.copy.result c.push.new.self.items c.copy.ensures
    (sym c.why.ensures ∙ ap (option_map plain_why) c.in-Some.is) c.in_ok-push-in-Some.ensures.items

pub returns-in-None : goal.returns-in-None
returns-in-None c =
    nothing_found (plain_findings c.args.list.now.items) c.args.file c.args.note.now c.args.server
    (sym c.why.ensures ∙ ap (option_map plain_why) c.in-None.is)
