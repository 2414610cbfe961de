use Rattle.std.proofs.Common.{arith}
use Rattle.ov_fields.proofs.TagLaws.{span_found}
use Rattle.ov_fields.proofs.TestLaws.{of_between}
use Rattle.ov_wire.proofs.EntryLaws.{entry_reads}
use Rattle.ov_wire.proofs.entries.take_entry.Goals as goal

pub overflow_sub-bytes : goal.overflow_sub-bytes
overflow_sub-bytes c =
    (span_found (entry_reads c.args.part (of_between 1 5 c.args.part c.requires.0 c.requires.1)) c.args.bytes.now c.in_ok-rest.rest.now (record { each = λ i. omega (arith, c.type_inv.bytes i) }) c.in_ok-rest.ensures).room

pub returns : goal.returns
returns c =
    rw (c.split_at.ensures.front, c.split_at.ensures.back)
    (span_found (entry_reads c.args.part (of_between 1 5 c.args.part c.requires.0 c.requires.1)) c.args.bytes.now c.in_ok-rest.rest.now (record { each = λ i. omega (arith, c.type_inv.bytes i) }) c.in_ok-rest.ensures).read
