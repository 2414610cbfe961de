use Rattle.std.proofs.Common.{◌≡◌, ◌∙◌, ◌∷◌, ◌++◌, ◌+◌, [], ℕ, List, ap, append-nil, append_assoc, sym}
use Rattle.std.proofs.Common.{take}
use Rattle.std.proofs.lemmas.List.{take_more}
use Rattle.ov_audit.specs.Findings.{plain_finding, plain_findings}
use Rattle.ov_audit.specs.declared.finding.Finding.{Finding}
use Rattle.ov_auditing.specs.Lines.{finding_line, finding_lines}
use Rattle.ov_auditing.proofs.listing.push_lines.Goals as goal

lines-push : (findings : List Finding) (finding : Finding)
    → finding_lines (plain_findings (findings ++ finding ∷ []))
    ≡ finding_lines (plain_findings findings) ++ finding_line (plain_finding finding)
lines-push [] finding = append-nil (finding_line (plain_finding finding))
lines-push (first ∷ findings) finding =
    ap (λ (rest : List ℕ). finding_line (plain_finding first) ++ rest) (lines-push findings finding)
    ∙ sym (append_assoc (finding_line (plain_finding first))
    (finding_lines (plain_findings findings)) (finding_line (plain_finding finding)))

pub loop-finding-preserved : goal.loop-finding-preserved
loop-finding-preserved c =
    let before : List ℕ = c.args.text.now.items in
    let findings : List Finding = c.args.findings.now in
    let i : ℕ = c.loop-finding.finding-index in
    let one : Finding = c.finding-item.result in
    let more : take (i + 1) findings ≡ take i findings ++ one ∷ [] =
    take_more findings i one c.loop-finding-test.true
    ∙ ap (λ (x : Finding). take i findings ++ x ∷ []) (sym c.finding-item.is) in
    c.in_ok-push_line.ensures
    ∙ ap (λ (text : List ℕ). text ++ finding_line (plain_finding one)) c.loop-finding.invariant
    ∙ append_assoc before (finding_lines (plain_findings (take i findings)))
    (finding_line (plain_finding one))
    ∙ ap (λ (lines : List ℕ). before ++ lines) (sym (lines-push (take i findings) one))
    ∙ ap (λ (list : List Finding). before ++ finding_lines (plain_findings list)) (sym more)
