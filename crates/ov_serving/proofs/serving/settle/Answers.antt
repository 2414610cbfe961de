use Rattle.std.proofs.Common.{inr, refl}
use Rattle.ov_serving.proofs.serving.settle.Goals as goal

pub returns-in-Some-clause-settles : goal.returns-in-Some-clause-settles
returns-in-Some-clause-settles g c =
    inr (c.in-Some.ended, c.in-Some.ensures, c.take_back.ensures.back, refl)
