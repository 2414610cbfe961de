use Rattle.std.proofs.Common.{List, ℕ, ◌≡◌, ◌≤◌, sym, subst, false, true}
use Rattle.ov_base.specs.declared.limits.TheConstants.{MAX_FILE_BYTES}
use Rattle.ov_base.specs.Names.{IsName}
use Rattle.ov_script.specs.LineFeeds.{Lacks}
use Rattle.ov_script.proofs.ByteTexts.{lacks_not}
use Rattle.ov_script.proofs.FirstLines.{if_none, create_text, behind_create, create_file, create_list}
use Rattle.ov_script.proofs.first_line.create_words.Goals as goal

abbrev NoWords : List ℕ → Type 0
NoWords line = (file list : List ℕ) (size : ℕ) → IsName file → Lacks 32 list → size ≤ MAX_FILE_BYTES → line ≡ create_text file list size → ⊥

pub returns-in_err-file-clause-none : goal.returns-in_err-file-clause-none
returns-in_err-file-clause-none c =
    if_none {P = NoWords c.args.line.now} _ (λ file list size named lacks low e. lacks_not 32 _ _ _ c.in_err-file.ensures.none (behind_create _ _ file list size c.in_ok-behind.ensures.found e))

pub returns-in_err-list-clause-none : goal.returns-in_err-list-clause-none
returns-in_err-list-clause-none c =
    let first = c.in_ok-file.ensures.found in
    if_none {P = NoWords c.args.line.now} _ (λ file list size named lacks low e.
    lacks_not 32 _ _ _ c.in_err-list.ensures.none (create_file _ _ _ _ file list size c.in_ok-behind.ensures.found first.0 first.1 named e).1)

pub returns-in_err-read-clause-none : goal.returns-in_err-read-clause-none
returns-in_err-read-clause-none c =
    let first = c.in_ok-file.ensures.found in
    if_none {P = NoWords c.args.line.now} _ (λ file list size named lacks low e.
    let once = create_file _ _ _ _ file list size c.in_ok-behind.ensures.found first.0 first.1 named e in
    let some : false ≡ true = c.in_err-read.ensures.form.1 (subst IsName (sym once.0) named) in absurd (cc))

pub returns-in_err-size_of_digits-clause-none : goal.returns-in_err-size_of_digits-clause-none
returns-in_err-size_of_digits-clause-none c =
    let first = c.in_ok-file.ensures.found in
    let second = c.in_ok-list.ensures.found in
    if_none {P = NoWords c.args.line.now} _ (λ file list size named lacks low e.
    let once = create_list _ _ _ _ _ _ file list size c.in_ok-behind.ensures.found first.0 first.1 second.0 second.1 named lacks e in
    c.in_err-size_of_digits.ensures.none size low once.1)
