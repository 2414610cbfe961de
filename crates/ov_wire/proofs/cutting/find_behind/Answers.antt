use Rattle.std.proofs.Common.{◌≡◌, ◌++◌, inl, inr, arith}
use Rattle.std.proofs.lemmas.Grind.{common_steps}
use Rattle.ov_fields.specs.Spelling.{u32}
use Rattle.ov_wire.proofs.cutting.find_behind.Goals as goal

pub returns-then-wanted-eq0 : goal.returns-then-wanted-eq0
returns-then-wanted-eq0 c =
    let begins : c.args.head ++ c.args.bytes.now ≡ u32 c.from_be_bytes-wanted.result ++ c.args.bytes.now = grind (arith, common_steps) in
    record { n = c.from_be_bytes-wanted.result; more = c.args.bytes.now; field = omega arith; outside = inl c.if-wanted-eq0.true; begins = begins }

pub returns-then-wanted : goal.returns-then-wanted
returns-then-wanted c =
    let begins : c.args.head ++ c.args.bytes.now ≡ u32 c.from_be_bytes-wanted.result ++ c.args.bytes.now = grind (arith, common_steps) in
    record { n = c.from_be_bytes-wanted.result; more = c.args.bytes.now; field = omega arith; outside = inr c.if-wanted.true; begins = begins }
