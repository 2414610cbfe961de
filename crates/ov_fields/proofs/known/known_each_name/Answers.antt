use Rattle.std.proofs.Common.{[], subst, arith}
use Rattle.std.proofs.lemmas.List.{get_or_default}
use Rattle.std.proofs.lemmas.List.Elements.{recursion_from_All}
use Rattle.ov_base.specs.Names.{IsName}
use Rattle.ov_fields.proofs.known.known_each_name.Goals as goal

pub returns : goal.returns
returns c =
    recursion_from_All IsName c.args.names.now
    (λ k d lt. subst IsName (get_or_default c.args.names.now k [] d lt) (c.loop-name.invariant k (omega arith)))
