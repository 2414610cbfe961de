use Rattle.std.proofs.Common.{[], subst, arith}
use Rattle.std.proofs.lemmas.List.{get_or_default}
use Rattle.std.proofs.lemmas.List.Elements.{recursion_from_All}
use Rattle.ov_fields.specs.Spelling.{IsToken}
use Rattle.ov_fields.proofs.known.known_tokens.Goals as goal

pub returns : goal.returns
returns c =
    recursion_from_All IsToken c.args.tokens.now
    (λ k d lt. subst IsToken (get_or_default c.args.tokens.now k (record { bytes = [] }) d lt) (c.loop-token.invariant k (omega arith)))
