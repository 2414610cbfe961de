use Rattle.std.proofs.Common.{◌≡◌}
use Rattle.ov_script.specs.Workload.{body}
use Rattle.ov_script.proofs.drawn_command.body.Given as goal

abbrev pub invariant-bytes : goal.invariant-bytes
invariant-bytes l = l.bytes.items ≡ body l.first l.j
