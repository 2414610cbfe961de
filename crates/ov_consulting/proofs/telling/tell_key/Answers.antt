use Rattle.std.proofs.Common.{arith, subst}
use Rattle.ov_history.specs.Asking.{user_named}
use Rattle.ov_state.specs.Contents.{IsWell}
use Rattle.ov_consulting.proofs.Roots.{roots_low}
use Rattle.ov_consulting.proofs.telling.tell_key.Goals as goal

pub client_of-requires-clause-base : goal.client_of-requires-clause-base
client_of-requires-clause-base g c =
    let cat = c.args.book.now.settled in
    let is = rw c.in-Ok.is at c.roots.ensures in
    let low = roots_low 1024 cat (user_named cat c.args.user.now)
    (subst (IsWell 1024) c.settled.ensures c.known.ensures) is.0 in
    omega (arith, is.1, low.0)

pub client_of-requires-clause-surface : goal.client_of-requires-clause-surface
client_of-requires-clause-surface g c =
    let cat = c.args.book.now.settled in
    let is = rw c.in-Ok.is at c.roots.ensures in
    let low = roots_low 1024 cat (user_named cat c.args.user.now)
    (subst (IsWell 1024) c.settled.ensures c.known.ensures) is.0 in
    omega (arith, is.3, low.1)
