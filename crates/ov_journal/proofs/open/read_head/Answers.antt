use Rattle.std.proofs.Common.{rules, ◌≡◌, length, min, arith}
use Rattle.ov_journal.proofs.Heading.{front_read}
use Rattle.ov_journal.proofs.open.read_head.Goals as goal

pub returns-clause-head : goal.returns-clause-head
returns-clause-head g c i is =
    let size = c.requires i is in
    let long : length c.read.new.buf ≡ min 95 c.args.size = search rules in
    c.head_of.ensures.head i.book size (front_read c.read.new.buf i.book _ 95 (c.in_ok-read.ensures.bytes i is) (omega (arith, long, size)))
