use Rattle.std.proofs.Common.{arith, inl, inr}
use Rattle.ov_auditing.proofs.WordTexts.{found_by, none_by, other_count, three_ask, three_ask_none}
use Rattle.ov_auditing.proofs.WordTexts.{three_texts, two_ask, two_ask_none, two_texts}
use Rattle.ov_auditing.proofs.audit_words.audit_of.Goals as goal

pub returns-in-empty-clause-none : goal.returns-in-empty-clause-none
returns-in-empty-clause-none c =
    other_count c.args.words.now (inl (omega (arith, c.in-empty.len_below)))

pub returns-in-len2-clause-found : goal.returns-in-len2-clause-found
returns-in-len2-clause-found c =
    let texts = two_texts _ _ _ _ _ c.in-len2.len_at_least c.in-len2.len_below
    c.audit-item.is c.list-item.is c.as_str.ensures.value c.as_str-in-len2.ensures.value in
    found_by c.asked_by.result _ _ (two_ask c.args.words.now _ _ texts) c.asked_by.ensures.found

pub returns-in-len2-clause-none : goal.returns-in-len2-clause-none
returns-in-len2-clause-none c =
    let texts = two_texts _ _ _ _ _ c.in-len2.len_at_least c.in-len2.len_below
    c.audit-item.is c.list-item.is c.as_str.ensures.value c.as_str-in-len2.ensures.value in
    none_by c.asked_by.result _ _ (two_ask_none c.args.words.now _ _ texts) c.asked_by.ensures.none

pub returns-in-len3-clause-found : goal.returns-in-len3-clause-found
returns-in-len3-clause-found c =
    let texts = three_texts _ _ _ _ _ _ _ c.in-len3.len_at_least c.in-len3.len_below
    c.first-item.is c.names-item.is c.server-item.is c.as_str-in-len3.ensures.value
    c.as_str-in-len3-2.ensures.value c.as_str-in-len3-3.ensures.value in
    found_by c.asked_with.result _ _ (three_ask c.args.words.now _ _ _ texts)
    c.asked_with.ensures.found

pub returns-in-len3-clause-none : goal.returns-in-len3-clause-none
returns-in-len3-clause-none c =
    let texts = three_texts _ _ _ _ _ _ _ c.in-len3.len_at_least c.in-len3.len_below
    c.first-item.is c.names-item.is c.server-item.is c.as_str-in-len3.ensures.value
    c.as_str-in-len3-2.ensures.value c.as_str-in-len3-3.ensures.value in
    none_by c.asked_with.result _ _ (three_ask_none c.args.words.now _ _ _ texts)
    c.asked_with.ensures.none

pub returns-in-len4-up-clause-none : goal.returns-in-len4-up-clause-none
returns-in-len4-up-clause-none c =
    other_count c.args.words.now (inr c.in-len4-up.len_at_least)
