use Rattle.ov_script.proofs.Searches.{first_behind, none_behind}
use Rattle.ov_script.proofs.find.first_lf.Goals as goal

pub returns-in-Some-clause-found : goal.returns-in-Some-clause-found
returns-in-Some-clause-found c =
    let s = first_behind 10 _ _ _ _ c.split_at.ensures.back c.requires.within c.requires.seen c.in-Some.ensures in
    (s.line, s.rest, s.lacks, s.count, s.whole)

pub returns-in-None-clause-none : goal.returns-in-None-clause-none
returns-in-None-clause-none c = none_behind 10 _ _ _ c.split_at.ensures.back c.requires.seen c.in-None.ensures
