use Rattle.std.proofs.Common.{◌≡◌, ◌++◌, drop}
use Rattle.ov_script.specs.WrittenLists.{with_commas}
use Rattle.ov_script.proofs.reply.put_with_commas.Given as goal

abbrev pub invariant-loop-name : goal.invariant-loop-name
invariant-loop-name l = l.text.items ++ with_commas (drop l.name-index l.names) ≡ l.fn.text.items ++ with_commas l.fn.names
