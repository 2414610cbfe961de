-- A pending update that is read from its encoding.
use Rattle.std.proofs.Common.{◌≡◌, ◌∙◌, ℕ, List, [], ◌++◌, length, Result, Ok, Err, sym, subst, ap}
use Rattle.std.proofs.lemmas.List.{append-nil}
use Rattle.ov_fields.specs.Answers.{Gives}
use Rattle.ov_record.specs.Briefs.{Brief as SpelledBrief, plain_brief, plain_front}
use Rattle.ov_record.specs.Forms.{second_form}
use Rattle.ov_record.specs.Places.{place_of}
use Rattle.ov_record.specs.Stored.{HasBriefForm, brief_spelling}
use Rattle.ov_record.specs.declared.brief.Brief.{Brief as BriefOf}
use Rattle.ov_record.specs.declared.fault.RecordFault.{RecordFault}
use Rattle.ov_record.specs.declared.fault.RecordFault.TheVariants.{BadRecord}

-- what is read of an encoding alone
pub read_alone : {W : ℕ} (bytes : List ℕ) (r : Result (BriefOf W × ℕ) RecordFault)
    → ((b : SpelledBrief) (rest : List ℕ) → HasBriefForm second_form b
    → bytes ≡ brief_spelling second_form b ++ rest
    → Gives place_of plain_front r (Ok (b, length (brief_spelling second_form b))))
    → (u : SpelledBrief) → HasBriefForm second_form u → bytes ≡ brief_spelling second_form u
    → Gives place_of plain_front r (Ok (u, length (brief_spelling second_form u)))
read_alone bytes r only u form is =
    only u [] form (is ∙ sym (append-nil (brief_spelling second_form u)))

-- an encoding isn't bad
pub never_bad : {W : ℕ} (bytes : List ℕ) (r : Result (BriefOf W × ℕ) RecordFault) (place : ℕ)
    → r ≡ Err (BadRecord place)
    → ((b : SpelledBrief) (rest : List ℕ) → HasBriefForm second_form b
    → bytes ≡ brief_spelling second_form b ++ rest
    → Gives place_of plain_front r (Ok (b, length (brief_spelling second_form b))))
    → (u : SpelledBrief) × HasBriefForm second_form u × (bytes ≡ brief_spelling second_form u) → ⊥
never_bad {W = W} bytes (Ok x) place is only (u, form, same) = absurd (cc is)
never_bad {W = W} bytes (Err (BadRecord other)) place is only (u, form, same) =
    absurd (cc (read_alone {W = W} bytes (Err (BadRecord other)) only u form same))
never_bad {W = W} bytes (Err why) place is only (u, form, same) = absurd (cc is)

-- the update that is read, or this one
abbrev first_of : SpelledBrief → Result (SpelledBrief × ℕ) ℕ → SpelledBrief
first_of u (Ok x) = x.0
first_of u (Err place) = u

-- what is read is what is spelled
pub is_read : {W : ℕ} (bytes : List ℕ) (r : Result (BriefOf W × ℕ) RecordFault) (x : BriefOf W) (n : ℕ)
    → r ≡ Ok (x, n)
    → ((b : SpelledBrief) (rest : List ℕ) → HasBriefForm second_form b
    → bytes ≡ brief_spelling second_form b ++ rest
    → Gives place_of plain_front r (Ok (b, length (brief_spelling second_form b))))
    → (u : SpelledBrief) → HasBriefForm second_form u → bytes ≡ brief_spelling second_form u
    → plain_brief x ≡ u
is_read {W = W} bytes r x n is only u form same =
    let gives : Gives place_of (plain_front {W = W}) (Ok (x, n))
    (Ok (u, length (brief_spelling second_form u))) =
    subst (λ (q : Result (BriefOf W × ℕ) RecordFault).
    Gives place_of plain_front q (Ok (u, length (brief_spelling second_form u)))) is
    (read_alone {W = W} bytes r only u form same) in
    sym (ap (λ (q : Result (SpelledBrief × ℕ) ℕ). first_of u q) gives)
