use Rattle.ov_fields.proofs.NameLaws.{Passes}
use Rattle.ov_fields.proofs.name.take_others.Given as goal

abbrev pub invariant-loop : goal.invariant-loop
invariant-loop l = Passes l.count l.counter l.bytes l.rest
