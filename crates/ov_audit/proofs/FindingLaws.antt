-- Findings that are put together note by note.
use Rattle.std.proofs.Common.{◌≡◌, ◌<◌, ◌+◌, ℕ, Bool, List, [], ◌∷◌, ◌++◌, length, get_or, refl, sym, ◌∙◌, ap}
use Rattle.std.proofs.Common.{add-one, append-nil, append_assoc, drop, drop-cons}
use Rattle.std.specs.Prelude.{Option, Some, None}
use Rattle.ov_exposure.specs.Exposure.{Cause}
use Rattle.ov_exposure.specs.Auditing.{Finding, cause_of, findings_from, found_as}
use Rattle.ov_audit.specs.Findings.{plain_cause, plain_finding, plain_findings}
use Rattle.ov_audit.specs.Notes.{plain_note, plain_notes}
use Rattle.ov_audit.specs.declared.finding.Cause.{Cause as Why}
use Rattle.ov_audit.specs.declared.finding.Finding.{Finding as Given}
use Rattle.ov_audit.specs.declared.note.Note.{Note as Written}

pub plain-push : (findings : List Given) (finding : Given)
    → plain_findings (findings ++ finding ∷ []) ≡ plain_findings findings ++ plain_finding finding ∷ []
plain-push [] finding = refl
plain-push (first ∷ findings) finding =
    ap (λ (rest : List Finding). plain_finding first ∷ rest) (plain-push findings finding)

found_front : (file : ℕ) (name : List ℕ) (o : Option (Cause × ℕ)) (rest : List Finding)
    → found_as file name o rest ≡ found_as file name o [] ++ rest
found_front file name None rest = refl
found_front file name (Some (cause, epoch)) rest = refl

-- what is found from a place on is what is found there, and then the rest
found_here : (server : Bool) (notes : List Written) (i : ℕ) (note : Written) → i < length notes
    → get_or notes i note ≡ note
    → findings_from server i (plain_notes (drop i notes))
    ≡ found_as i (plain_note note).name (cause_of server (plain_note note)) []
    ++ findings_from server (i + 1) (plain_notes (drop (i + 1) notes))
found_here server notes i note low is =
    let cons : drop i notes ≡ note ∷ drop (i + 1) notes = rw (add-one, drop-cons notes i note low, is) refl in
    ap (λ (these : List Written). findings_from server i (plain_notes these)) cons
    ∙ found_front i (plain_note note).name (cause_of server (plain_note note))
    (findings_from server (i + 1) (plain_notes (drop (i + 1) notes)))

-- with what is found at one place more, as much is found as before
pub found_step : (server : Bool) (notes : List Written) (i : ℕ) (note : Written)
    (list more : List Finding)
    → i < length notes → get_or notes i note ≡ note
    → more ≡ list ++ found_as i (plain_note note).name (cause_of server (plain_note note)) []
    → more ++ findings_from server (i + 1) (plain_notes (drop (i + 1) notes))
    ≡ list ++ findings_from server i (plain_notes (drop i notes))
found_step server notes i note list more low is put =
    ap (λ (front : List Finding). front ++ findings_from server (i + 1) (plain_notes (drop (i + 1) notes)))
    put
    ∙ append_assoc list (found_as i (plain_note note).name (cause_of server (plain_note note)) [])
    (findings_from server (i + 1) (plain_notes (drop (i + 1) notes)))
    ∙ ap (λ (rest : List Finding). list ++ rest) (sym (found_here server notes i note low is))

-- one finding more, where there is one
pub something_found : (list : List Given) (file : ℕ) (note : Written) (server : Bool) (cause : Why)
    (epoch : ℕ) (name : List ℕ) (more : List Given)
    → name ≡ note.name → cause_of server (plain_note note) ≡ Some (plain_cause cause, epoch)
    → more ≡ list ++ record { file = file; name = name; cause = cause; epoch = epoch } ∷ []
    → plain_findings more
    ≡ plain_findings list ++ found_as file (plain_note note).name (cause_of server (plain_note note)) []
something_found list file note server cause epoch name more named is put =
    ap plain_findings put
    ∙ plain-push list (record { file = file; name = name; cause = cause; epoch = epoch })
    ∙ ap
    (λ (these : List ℕ). plain_findings list
    ++ record { file = file; name = these; cause = plain_cause cause; epoch = epoch } ∷ []) named
    ∙ ap (λ (o : Option (Cause × ℕ)). plain_findings list ++ found_as file note.name o []) (sym is)

-- and none, where there is none
pub nothing_found : (list : List Finding) (file : ℕ) (note : Written) (server : Bool)
    → cause_of server (plain_note note) ≡ None
    → list ≡ list ++ found_as file (plain_note note).name (cause_of server (plain_note note)) []
nothing_found list file note server is =
    sym (append-nil list)
    ∙ ap (λ (o : Option (Cause × ℕ)). list ++ found_as file note.name o []) (sym is)
