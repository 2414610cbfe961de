-- The reader of chains reads exactly their spellings.
use Rattle.std.proofs.Common.{ℕ, ◌+◌, ◌*◌, ◌^◌, ◌<◌, List, length, refl, sym, subst, arith}
use Rattle.std.specs.List.{flat_map, AllByRecursion}
use Rattle.ov_tokens.specs.declared.label.Kind.{Kind}
use Rattle.ov_tokens.specs.declared.token.Token.{Token}
use Rattle.ov_tokens.specs.declared.chain.Step.{Step}
use Rattle.ov_fields.specs.Spelling.{counted}
use Rattle.ov_fields.specs.Reading.{many_at}
use Rattle.ov_fields.proofs.ReadingLaws.{Reads, then_reads, made_reads, given_reads, sized_by, refit}
use Rattle.ov_fields.proofs.FieldLaws.{number_reads, wide16}
use Rattle.ov_fields.proofs.ListLaws.{many_reads, Reads-more}
use Rattle.ov_fields.proofs.NameLaws.{token_reads}
use Rattle.ov_wire.specs.Chains.{step_field, chain_field, IsStep, AreSteps, IsChain, step, step_at, steps_at, chain, chain_at}
use Rattle.ov_wire.proofs.NumberLaws.{node_reads, kind_reads}

abbrev step_parts : Step → (Kind × ℕ) × Token
step_parts s = ((s.to.kind, s.to.number), s.token)

pub step_reads : (kinds : List Kind) → Reads (step_at kinds) step_field (IsStep kinds) (1 + 4 + 32)
step_reads kinds =
    refit (IsStep kinds)
    (made_reads step step_parts (λ f. refl) (λ s. refl) (then_reads (then_reads (kind_reads kinds) node_reads) token_reads))
    (λ s fits. (fits.0.0, fits.0.1, fits.1)) (λ s fits. ((fits.0, fits.1), fits.2))

-- `n` steps are read as they are spelled
some_reads : (kinds : ℕ → List Kind) (n : ℕ) → n < 2 ^ 16
    → Reads (many_at (step_at (kinds n)) n) (flat_map step_field) (sized_by (λ steps. AllByRecursion (IsStep (kinds (length steps))) steps) length n) (65535 * 37)
some_reads kinds n small =
    refit (sized_by (λ steps. AllByRecursion (IsStep (kinds (length steps))) steps) length n)
    (Reads-more (many_reads (step_reads (kinds n)) n) (65535 * 37) (omega arith))
    (λ steps fits. (subst (λ (k : ℕ). AllByRecursion (IsStep (kinds k)) steps) (sym fits.1) fits.0, fits.1))
    (λ steps fits. (subst (λ (k : ℕ). AllByRecursion (IsStep (kinds k)) steps) fits.1 fits.0, fits.1))

steps_reads : (kinds : ℕ → List Kind) → Reads (steps_at kinds) (counted step_field) (AreSteps kinds) (2 + 65535 * 37)
unfolding steps_at
steps_reads kinds =
    given_reads (λ n. many_at (step_at (kinds n)) n) (flat_map step_field) (λ steps. AllByRecursion (IsStep (kinds (length steps))) steps) length (65535 * 37) (number_reads wide16)
    (λ n small. some_reads kinds n small)

pub chain_reads : (kinds : ℕ → List Kind) → Reads (chain_at kinds) chain_field (IsChain kinds) (4 + (2 + 65535 * 37))
chain_reads kinds = made_reads chain (λ c. (c.root, c.steps)) (λ f. refl) (λ c. refl) (then_reads node_reads (steps_reads kinds))
