use Rattle.std.proofs.Common.{sym, subst}
use Rattle.ov_script.specs.WrittenLists.{IsList}
use Rattle.ov_script.proofs.FirstLines.{create_once}
use Rattle.ov_script.proofs.ListTexts.{list_no_space}
use Rattle.ov_script.proofs.first_line.create.Goals as goal

pub returns-in-None-2-clause-none : goal.returns-in-None-2-clause-none
returns-in-None-2-clause-none c = λ file names size (list, named, is, low, short, e).
    let words = c.in-Some.ensures.found in
    let once = create_once _ _ _ _ _ _ _ words.0 words.1 words.2 words.3 named (list_no_space list names is) low e in
    let none = rw c.in-None-2.is at c.in_ok-list-in-Some.ensures.none in
    none names (subst (λ t. IsList t names) (sym once.list) is)

pub returns-in-None-clause-none : goal.returns-in-None-clause-none
returns-in-None-clause-none c = λ file names size (list, named, is, low, short, e).
    c.in-None.ensures.none file list size named (list_no_space list names is) low e
