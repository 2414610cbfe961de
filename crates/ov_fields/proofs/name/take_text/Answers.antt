use Rattle.std.proofs.Common.{arith}
use Rattle.ov_fields.proofs.NameLaws.{text_found}
use Rattle.ov_fields.proofs.name.take_text.Goals as goal

pub split_at-requires : goal.split_at-requires
split_at-requires c =
    (text_found c.args.more c.args.bytes.now c.in_ok-rest.field-0-0 c.in_ok-rest.rest.now c.in_ok-rest-2.field-0-0.now c.in_ok-rest-2.rest.now c.requires
    (record { each = λ i. omega (arith, c.type_inv.bytes i) }) c.in_ok-rest.ensures c.in_ok-rest-2.ensures).room

pub unreachable-requires : goal.unreachable-requires
unreachable-requires c =
    let t = text_found c.args.more c.args.bytes.now c.in_ok-rest.field-0-0 c.in_ok-rest.rest.now c.in_ok-rest-2.field-0-0.now c.in_ok-rest-2.rest.now c.requires
    (record { each = λ i. omega (arith, c.type_inv.bytes i) }) c.in_ok-rest.ensures c.in_ok-rest-2.ensures in
    let no = c.in-None.ensures.form.1 (rw c.split_at.ensures.front t.is_name) in cc

pub returns : goal.returns
returns c =
    let t = text_found c.args.more c.args.bytes.now c.in_ok-rest.field-0-0 c.in_ok-rest.rest.now c.in_ok-rest-2.field-0-0.now c.in_ok-rest-2.rest.now c.requires
    (record { each = λ i. omega (arith, c.type_inv.bytes i) }) c.in_ok-rest.ensures c.in_ok-rest-2.ensures in
    rw (c.in-Some.ensures.bytes, c.split_at.ensures.front) t.read
