use Rattle.std.proofs.Common.{◌≡◌, drop}
use Rattle.ov_history.specs.Lists.{set_named, set_with}
use Rattle.ov_state.proofs.state.State.users_named.Given as goal

abbrev pub invariant-loop-name : goal.invariant-loop-name
invariant-loop-name g l =
    set_with l.self.catalogue.users l.set (drop l.name-index l.names) ≡ set_named l.self.catalogue.users l.names
