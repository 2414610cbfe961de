use Rattle.std.proofs.Common.{◌≡◌, ◌∙◌, ◌∷◌, List, ℕ, sym, ap, subst, true}
use Rattle.std.specs.Prelude.{IfNone, IfOk, IfSome, codes, map, string_bytes}
use Rattle.std.specs.Str.{bytes_eq}
use Rattle.std.proofs.lemmas.Slice.Eq.{bytes_eq-Decides}
use Rattle.ov_base.proofs.Tests.{true_of_not}
use Rattle.ov_consulting.specs.Words.{IsBookLine, IsNoBookLine}
use Rattle.ov_consulting.proofs.Texts.{few_are_no_line, four_texts}
use Rattle.ov_consulting.proofs.words.job_of.Goals as goal

pub returns-in_default-clause-none : goal.returns-in_default-clause-none
returns-in_default-clause-none c = few_are_no_line c.args.words.now c.in_default.len_below

-- the words are `book`, three more and the rest
book_line : (c : goal.After-job_behind)
    → map string_bytes c.args.words.now ≡ codes "book" ∷ c.as_str-in-len4-up.result.now
    ∷ c.as_str-in-len4-up-2.result.now ∷ c.as_str-in-len4-up-3.result.now
    ∷ map string_bytes c.split_at.result.1.now
book_line c =
    let same : bytes_eq c.as_str.result.now (codes "book") ≡ true =
    true_of_not _ (sym c.ne.ensures ∙ c.if-ne.false) in
    four_texts c.args.words.now _ _ _ _ _ _ _ _ c.split_at.result.1.now c.in-len4-up.len_at_least
    c.first-item.is c.keys-item.is c.book-item.is c.mode-item.is c.as_str.ensures.value
    c.as_str-in-len4-up.ensures.value c.as_str-in-len4-up-2.ensures.value
    c.as_str-in-len4-up-3.ensures.value c.split_at.ensures.back
    ∙ ap (λ (x : List ℕ). x ∷ c.as_str-in-len4-up.result.now
    ∷ c.as_str-in-len4-up-2.result.now ∷ c.as_str-in-len4-up-3.result.now
    ∷ map string_bytes c.split_at.result.1.now)
    ((bytes_eq-Decides c.as_str.result.now (codes "book")).0 same)

pub returns-else-ne-clause-found : goal.returns-else-ne-clause-found
returns-else-ne-clause-found c =
    subst (λ (ws : List (List ℕ)). IfOk c.job_behind.result (λ found. IfSome found (IsBookLine ws)))
    (sym (book_line c)) c.job_behind.ensures.found

pub returns-else-ne-clause-none : goal.returns-else-ne-clause-none
returns-else-ne-clause-none c =
    subst (λ (ws : List (List ℕ)). IfOk c.job_behind.result (λ found. IfNone found (IsNoBookLine ws)))
    (sym (book_line c)) c.job_behind.ensures.none
