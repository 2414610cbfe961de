use Rattle.std.proofs.Common.{arith}
use Rattle.std.proofs.lemmas.Grind.{common_steps}
use Rattle.ov_tokens.proofs.TokenLemmas.{derived_key-made_for}
use Rattle.ov_tokens.proofs.token.derive.Goals as goal

pub returns-clause-leads_back : goal.returns-clause-leads_back
returns-clause-leads_back c key whole made =
    derived_key-made_for c.args.from.now.bytes key c.args.token.now.bytes _ c.args.to whole made
    (grind (arith, common_steps))
