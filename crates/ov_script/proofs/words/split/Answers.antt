use Rattle.ov_script.proofs.Searches.{splits_at_first, nowhere_lacks, parts_at}
use Rattle.ov_script.proofs.words.split.Goals as goal

pub returns-in-Some-clause-found : goal.returns-in-Some-clause-found
returns-in-Some-clause-found c =
    let found = c.in-Some.ensures in
    let s = splits_at_first c.args.byte _ c.in-Some.end found.0.high found.0.before found.1 in
    parts_at c.args.byte _ _ _ _ _ s c.split_at.ensures.front c.split_at.ensures.back c.split_at-in-Some.ensures.back

pub returns-in-None-clause-none : goal.returns-in-None-clause-none
returns-in-None-clause-none c = nowhere_lacks c.args.byte _ c.in-None.ensures
