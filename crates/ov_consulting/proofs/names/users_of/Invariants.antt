use Rattle.std.proofs.Common.{◌≡◌, take}
use Rattle.ov_consulting.proofs.names.users_of.Given as goal

abbrev pub invariant-loop-user : goal.invariant-loop-user
invariant-loop-user l = l.users.items ≡ take l.user l.state.catalogue.users
