use Rattle.std.proofs.Common.{take}
use Rattle.ov_auditing.specs.Exposed.{AreUsersOf}
use Rattle.ov_auditing.proofs.naming.users_named.Given as goal

abbrev pub invariant-loop-name : goal.invariant-loop-name
invariant-loop-name l = AreUsersOf l.state.catalogue.users (take l.name-index l.names) l.users
