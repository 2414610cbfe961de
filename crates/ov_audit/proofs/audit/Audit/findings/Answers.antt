use Rattle.std.proofs.Common.{◌∙◌, ◌++◌, List, ap, append-nil, arith, sym}
use Rattle.std.proofs.lemmas.List.{drop_all}
use Rattle.ov_exposure.specs.Auditing.{findings_from}
use Rattle.ov_audit.specs.Findings.{plain_findings}
use Rattle.ov_audit.specs.Notes.{plain_notes}
use Rattle.ov_audit.specs.Seen.{Seen}
use Rattle.ov_audit.specs.declared.finding.Finding.{Finding as Given}
use Rattle.ov_audit.specs.declared.note.Note.{Note as Written}
use Rattle.ov_audit.proofs.FindingLaws.{found_step}
use Rattle.ov_audit.proofs.audit.Audit.findings.Goals as goal

pub loop-i-init : goal.loop-i-init
loop-i-init c =
    ap
    (λ (list : List Given). plain_findings list
    ++ findings_from c.self.inside.server 0 (plain_notes c.self.inside.notes.items))
    c.new-list.ensures.items
    ∙ ap (λ (seen : Seen). findings_from seen.server 0 seen.notes) c.self.view_is

pub loop-i-preserved : goal.loop-i-preserved
loop-i-preserved c =
    found_step c.self.inside.server c.self.inside.notes.items c.loop-i.i c.index.result.now
    (plain_findings c.loop-i.list.items) (plain_findings c.push_found.new.list.items)
    (omega (arith, c.len-i-end.ensures)) (sym c.index.ensures) c.in_ok-push_found.ensures
    ∙ c.loop-i.invariant

pub returns : goal.returns
returns c =
    c.from_vec.ensures
    ∙ sym (append-nil (plain_findings c.loop-i.list.items))
    ∙ ap
    (λ (rest : List Written). plain_findings c.loop-i.list.items
    ++ findings_from c.self.inside.server c.loop-i.i (plain_notes rest))
    (sym (drop_all c.loop-i.i c.self.inside.notes.items (omega (arith, c.len-i-end.ensures))))
    ∙ c.loop-i.invariant
