use Rattle.std.proofs.Common.{◌≡◌, ◌++◌, drop}
use Rattle.ov_script.specs.WrittenLists.{with_commas}
use Rattle.ov_consulting.proofs.pending.put_with_commas.Given as goal

abbrev pub invariant-loop-name : goal.invariant-loop-name
invariant-loop-name l = l.out.items ++ with_commas (drop l.name-index l.names) ≡ l.fn.out.items ++ with_commas l.fn.names
