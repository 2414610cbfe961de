use denote.Bor.{Bor}
use Rattle.std.proofs.Common.{◌≡◌, ◌≢◌, List, ℕ, ◌++◌, Option, Some, None}
use Rattle.std.specs.Prelude.{MatchOption, IfSome, IfNone}
use Rattle.std.proofs.lemmas.Bool.Decides.{Decides-eqb}
use Rattle.std.proofs.lemmas.Slice.Eq.{strip_prefix_is}
use Rattle.ov_script.proofs.first_line.behind.Goals as goal

abbrev Stripped : List ℕ → List ℕ → Option (Bor (List ℕ)) → Type 0
Stripped line word found = MatchOption found ((rest : List ℕ) → line ≢ word ++ rest) (λ x. line ≡ word ++ x.now)

some_part : (line word : List ℕ) (found : Option (Bor (List ℕ))) → Stripped line word found → IfSome found (λ x. line ≡ word ++ x.now)
some_part line word None p = tt
some_part line word (Some x) p = p

none_part : (line word : List ℕ) (found : Option (Bor (List ℕ))) → Stripped line word found → IfNone found ((rest : List ℕ) → line ≡ word ++ rest → ⊥)
none_part line word None p = p
none_part line word (Some x) p = tt

pub returns-clause-found : goal.returns-clause-found
returns-clause-found c = some_part _ _ _ (strip_prefix_is Decides-eqb c.args.line.now c.args.word.now _ c.strip_prefix.ensures.cases)

pub returns-clause-none : goal.returns-clause-none
returns-clause-none c = none_part _ _ _ (strip_prefix_is Decides-eqb c.args.line.now c.args.word.now _ c.strip_prefix.ensures.cases)
