use Rattle.std.proofs.Common.{◌≡◌, ◌∙◌, ◌∷◌, List, ℕ, sym, ap, subst, true}
use Rattle.std.specs.Prelude.{IfNone, IfOk, IfSome, codes, map, string_bytes}
use Rattle.std.specs.Str.{bytes_eq}
use Rattle.std.proofs.lemmas.Slice.Eq.{bytes_eq-Decides}
use Rattle.ov_base.proofs.Tests.{true_of_not}
use Rattle.ov_owning.specs.Words.{IsNoOwnLine, IsOwnLine}
use Rattle.ov_owning.proofs.Texts.{few_are_no_line, five_texts}
use Rattle.ov_owning.proofs.words.job_of.Goals as goal

pub returns-in_default-clause-none : goal.returns-in_default-clause-none
returns-in_default-clause-none c = few_are_no_line c.args.words.now c.in_default.len_below

-- the words are `own`, four more and the rest
own_line : (c : goal.After-job_behind)
    → map string_bytes c.args.words.now ≡ codes "own" ∷ c.as_str-in-len5-up.result.now
    ∷ c.as_str-in-len5-up-2.result.now ∷ c.as_str-in-len5-up-3.result.now
    ∷ c.as_str-in-len5-up-4.result.now ∷ map string_bytes c.split_at.result.1.now
own_line c =
    let same : bytes_eq c.as_str.result.now (codes "own") ≡ true =
    true_of_not _ (sym c.ne.ensures ∙ c.if-ne.false) in
    five_texts c.args.words.now _ _ _ _ _ _ _ _ _ _ c.split_at.result.1.now c.in-len5-up.len_at_least c.own-item.is
    c.address-item.is c.keys-item.is c.book-item.is c.mode-item.is c.as_str.ensures.value
    c.as_str-in-len5-up.ensures.value c.as_str-in-len5-up-2.ensures.value
    c.as_str-in-len5-up-3.ensures.value c.as_str-in-len5-up-4.ensures.value
    c.split_at.ensures.back
    ∙ ap (λ (x : List ℕ). x ∷ c.as_str-in-len5-up.result.now
    ∷ c.as_str-in-len5-up-2.result.now ∷ c.as_str-in-len5-up-3.result.now
    ∷ c.as_str-in-len5-up-4.result.now ∷ map string_bytes c.split_at.result.1.now) ((bytes_eq-Decides c.as_str.result.now (codes "own")).0 same)

pub returns-else-ne-clause-found : goal.returns-else-ne-clause-found
returns-else-ne-clause-found c =
    subst (λ (ws : List (List ℕ)). IfOk c.job_behind.result (λ found. IfSome found (IsOwnLine ws)))
    (sym (own_line c)) c.job_behind.ensures.found

pub returns-else-ne-clause-none : goal.returns-else-ne-clause-none
returns-else-ne-clause-none c =
    subst (λ (ws : List (List ℕ)). IfOk c.job_behind.result (λ found. IfNone found (IsNoOwnLine ws)))
    (sym (own_line c)) c.job_behind.ensures.none
