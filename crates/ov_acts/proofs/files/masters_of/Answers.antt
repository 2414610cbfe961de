use Rattle.std.proofs.Common.{refl}
use Rattle.ov_acts.proofs.Taking.{takes_so}
use Rattle.ov_acts.proofs.files.masters_of.Goals as goal

pub returns-in-Ok-Some-clause-takes : goal.returns-in-Ok-Some-clause-takes
returns-in-Ok-Some-clause-takes g c =
    takes_so g.K.Source.tells _ _ _ _ _ refl c.read_masters.ensures.needed

pub returns-in-Ok-None-clause-takes : goal.returns-in-Ok-None-clause-takes
returns-in-Ok-None-clause-takes g c =
    takes_so g.K.Source.tells _ _ _ _ _ refl c.read_masters.ensures.needed

pub returns-in-Err-clause-takes : goal.returns-in-Err-clause-takes
returns-in-Err-clause-takes g c =
    takes_so g.K.Source.tells _ _ _ _ _ refl c.read_masters.ensures.needed
