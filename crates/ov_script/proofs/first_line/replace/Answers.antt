use Rattle.std.proofs.Common.{List, ℕ, ◌≡◌, sym, subst, false, true}
use Rattle.ov_base.specs.Names.{IsName}
use Rattle.ov_script.specs.ItemLines.{SaysReplace}
use Rattle.ov_script.proofs.ByteTexts.{lacks_not}
use Rattle.ov_script.proofs.FirstLines.{if_none, behind_replace, replace_file}
use Rattle.ov_script.proofs.first_line.replace.Goals as goal

abbrev NoWords : List ℕ → Type 0
NoWords line = (file : List ℕ) (size : ℕ) → SaysReplace line file size → ⊥

pub returns-in_err-file-clause-none : goal.returns-in_err-file-clause-none
returns-in_err-file-clause-none c =
    if_none {P = NoWords c.args.line.now} _ (λ file size (named, low, e). lacks_not 32 _ _ _ c.in_err-file.ensures.none (behind_replace _ _ file size c.in_ok-behind.ensures.found e))

pub returns-in_err-read-clause-none : goal.returns-in_err-read-clause-none
returns-in_err-read-clause-none c =
    let first = c.in_ok-file.ensures.found in
    if_none {P = NoWords c.args.line.now} _ (λ file size (named, low, e).
    let once = replace_file _ _ _ _ file size c.in_ok-behind.ensures.found first.0 first.1 named e in
    let some : false ≡ true = c.in_err-read.ensures.form.1 (subst IsName (sym once.0) named) in absurd (cc))

pub returns-in_err-size_of_digits-clause-none : goal.returns-in_err-size_of_digits-clause-none
returns-in_err-size_of_digits-clause-none c =
    let first = c.in_ok-file.ensures.found in
    if_none {P = NoWords c.args.line.now} _ (λ file size (named, low, e).
    let once = replace_file _ _ _ _ file size c.in_ok-behind.ensures.found first.0 first.1 named e in
    c.in_err-size_of_digits.ensures.none size low once.1)
