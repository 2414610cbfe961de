use Rattle.std.proofs.Common.{◌≡◌}
use Rattle.ov_replaying.specs.Reading.{StaysAsItWas}
use Rattle.ov_auditing.specs.Following.{FollowsAny, FollowsEach}
use Rattle.ov_auditing.proofs.replaying.findings_of.Given as goal

-- so many updates were followed, and nothing was written
abbrev pub invariant-updates : goal.invariant-updates
invariant-updates g l = record {
  any : FollowsAny l.fn.surface.bytes l.state.value.catalogue l.audit;
  followed : FollowsEach g.D.Disk.tells l.fn.store l.i l.state.value.catalogue l.audit;
  stays : StaysAsItWas g.D.Disk.tells l.fn.store l.store ⊥;
  users : l.audit.users ≡ l.fn.users;
  server : l.audit.server ≡ l.fn.server;
}
