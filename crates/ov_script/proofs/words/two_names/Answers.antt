use Rattle.std.proofs.Common.{List, ℕ, ◌≡◌, ◌++◌, ◌∷◌, sym, subst, false, true}
use Rattle.ov_base.specs.Names.{IsName}
use Rattle.ov_script.proofs.FirstLines.{if_none, names_once}
use Rattle.ov_script.proofs.ByteTexts.{lacks_not}
use Rattle.ov_script.proofs.words.two_names.Goals as goal

abbrev NoTwo : List ℕ → Type 0
NoTwo text = (a b : List ℕ) → IsName a → IsName b → text ≡ a ++ 32 ∷ b → ⊥

pub returns-in_err-first-clause-none : goal.returns-in_err-first-clause-none
returns-in_err-first-clause-none c = if_none {P = NoTwo c.args.text.now} _ (λ a b named named' e. lacks_not 32 _ a b c.in_err-first.ensures.none e)

pub returns-in_err-first-2-clause-none : goal.returns-in_err-first-2-clause-none
returns-in_err-first-2-clause-none c =
    let found = c.in_ok-first.ensures.found in
    if_none {P = NoTwo c.args.text.now} _ (λ a b named named' e.
    let once = names_once _ _ _ a b found.0 found.1 named e in
    let some : false ≡ true = c.in_err-first-2.ensures.form.1 (subst IsName (sym once.0) named) in absurd (cc))

pub returns-in_err-second-clause-none : goal.returns-in_err-second-clause-none
returns-in_err-second-clause-none c =
    let found = c.in_ok-first.ensures.found in
    if_none {P = NoTwo c.args.text.now} _ (λ a b named named' e.
    let once = names_once _ _ _ a b found.0 found.1 named e in
    let some : false ≡ true = c.in_err-second.ensures.form.1 (subst IsName (sym once.1) named') in absurd (cc))
