use Rattle.ov_client.proofs.Spaces.{nowhere, parts_at}
use Rattle.ov_client.proofs.key_line.split.Goals as goal

pub returns-in-Some-clause-found : goal.returns-in-Some-clause-found
returns-in-Some-clause-found c =
    let found = c.in-Some.ensures in
    parts_at c.args.text.now _ _ _ c.in-Some.end found.0.high found.0.before found.1
    c.split_at.ensures.front c.split_at.ensures.back c.split_at-in-Some.ensures.back

pub returns-in-None-clause-none : goal.returns-in-None-clause-none
returns-in-None-clause-none c = nowhere c.args.text.now c.in-None.ensures
