use Rattle.std.proofs.Common.{subst, sym, List, ℕ, ◌++◌}
use Rattle.std.specs.Fmt.{decimal}
use Rattle.ov_keyfile.specs.KeyFile.{IsKeyLine}
use Rattle.ov_client.proofs.KeyLines.{NoRoot, a_root, cut_in_two, digits_of, if_none, no_fewer, root_of_word}
use Rattle.ov_client.proofs.Spaces.{unsplit}
use Rattle.ov_client.proofs.key_line.root_and_key.Goals as goal

pub returns-in_err-word-clause-none : goal.returns-in_err-word-clause-none
returns-in_err-word-clause-none c =
    if_none {P = NoRoot c.args.text.now} _
    (λ root key rest is. unsplit c.args.text.now (decimal root) (is.digits ++ rest) c.in_err-word.ensures.none is.words)

pub returns-in_err-root-clause-none : goal.returns-in_err-root-clause-none
returns-in_err-root-clause-none c =
    let found = c.in_ok-word.ensures.found in
    if_none {P = NoRoot c.args.text.now} _ (λ root key rest is.
    let words = root_of_word c.args.text.now _ _ root key rest found.0 found.1 is in
    c.in_err-root.ensures.none root is.low words.0)

pub returns-in_err-digits-clause-none : goal.returns-in_err-digits-clause-none
returns-in_err-digits-clause-none c =
    let found = c.in_ok-word.ensures.found in
    if_none {P = NoRoot c.args.text.now} _ (λ root key rest is.
    let words = root_of_word c.args.text.now _ _ root key rest found.0 found.1 is in
    no_fewer _ root c.args.text.now key rest c.in_err-digits.ensures.cases is words.1)

pub returns-in_err-key-clause-none : goal.returns-in_err-key-clause-none
returns-in_err-key-clause-none c =
    let found = c.in_ok-word.ensures.found in
    let cut = c.in_ok-digits.ensures.cases in
    if_none {P = NoRoot c.args.text.now} _ (λ root key rest is.
    let words = root_of_word c.args.text.now _ _ root key rest found.0 found.1 is in
    let parts = digits_of _ _ _ root c.args.text.now key rest cut.3
    (cut_in_two _ _ _ 64 cut.1 cut.2) is words.1 in
    c.in_err-key.ensures.none key
    (subst (λ (digits : List ℕ). IsKeyLine digits key) (sym parts.0) is.key_digits))

pub returns-clause-found : goal.returns-clause-found
returns-clause-found c =
    let found = c.in_ok-word.ensures.found in
    let cut = c.in_ok-digits.ensures.cases in
    a_root c.args.text.now _ _ _ _ c.in_ok-root.root _ found.1 (cut_in_two _ _ _ 64 cut.1 cut.2)
    c.in_ok-root.ensures.found.0 c.in_ok-root.ensures.found.1 c.in_ok-key.ensures.found
