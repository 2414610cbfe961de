use Rattle.std.proofs.Common.{◌∙◌}
use Rattle.ov_base.proofs.WordBits.{same_test}
use Rattle.ov_base.proofs.user_set.words.are_same.Goals as goal

pub returns : goal.returns
returns c = c.eq.ensures ∙ same_test c.args.words.now c.args.other.now c.fit.ensures c.fit-2.ensures c.requires
