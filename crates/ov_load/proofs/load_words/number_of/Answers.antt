use Rattle.std.proofs.Common.{◌≡◌, ◌∙◌, sym, true, false}
use Rattle.std.proofs.lemmas.Slice.Eq.{bytes_eq-Decides}
use Rattle.ov_load.proofs.Asking.{never_unread, read_once}
use Rattle.ov_load.proofs.load_words.number_of.Goals as goal

pub returns-else-eq-clause-none : goal.returns-else-eq-clause-none
returns-else-eq-clause-none c = λ number low is.
    let printed = read_once c.args.word.now c.parse.result c.in-Ok.number number c.in-Ok.is low is c.parse.ensures.value.0 in
    let same : c.format-printed.result.now ≡ c.args.word.now = c.format-printed.ensures.text ∙ sym printed in
    let other : true ≡ false = sym ((bytes_eq-Decides c.format-printed.result.now c.args.word.now).1 same) ∙ sym c.eq.ensures ∙ c.if-eq.false in
    absurd (cc other)

pub returns-in-Err-clause-none : goal.returns-in-Err-clause-none
returns-in-Err-clause-none c = λ number low is.
    never_unread c.args.word.now number c.in-Err.field-0 low is c.in-Err.ensures.value.0
