use Rattle.std.proofs.Common.{◌≡◌, take}
use Rattle.ov_history.specs.Lists.{names_in}
use Rattle.ov_consulting.proofs.names.names_of.Given as goal

abbrev pub invariant-loop-user : goal.invariant-loop-user
invariant-loop-user l = l.names ≡ names_in l.set (take l.user l.state.catalogue.users)
