use Rattle.std.proofs.Common.{◌≡◌}
use Rattle.ov_script.specs.Workload.{users_in}
use Rattle.ov_script.proofs.drawn_command.users_in.Given as goal

abbrev pub invariant-users : goal.invariant-users
invariant-users l = l.names ≡ users_in l.who l.number
