use Rattle.ov_listing.proofs.Pages.{name_behind, no_name, read_behind}
use Rattle.ov_listing.proofs.asking.name_in.Goals as goal

pub returns-in_ok-word-in-len1-up-clause-some : goal.returns-in_ok-word-in-len1-up-clause-some
returns-in_ok-word-in-len1-up-clause-some c =
    let entry = c.args.entry.now in
    let word = c.in_ok-word-in-len1-up.word.now in
    let cut = c.in_ok-word-in-len1-up.ensures.cases in
    read_behind entry word c.read.result c.read.ensures.bytes
    (name_behind entry word c.in-len1-up.len_at_least cut.1 cut.3)

pub returns-in_ok-word-in-len1-up-clause-none : goal.returns-in_ok-word-in-len1-up-clause-none
returns-in_ok-word-in-len1-up-clause-none c =
    let entry = c.args.entry.now in
    let word = c.in_ok-word-in-len1-up.word.now in
    let cut = c.in_ok-word-in-len1-up.ensures.cases in
    no_name entry word c.read.result c.read.ensures.form
    (name_behind entry word c.in-len1-up.len_at_least cut.1 cut.3)
