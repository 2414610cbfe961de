use Rattle.std.proofs.Common.{rules, ◌≡◌, ◌-◌, length, drop, min, arith, length-drop}
use Rattle.ov_journal.proofs.Heading.{front_read}
use Rattle.ov_journal.proofs.scan.next_record.Goals as goal

pub returns-clause-next : goal.returns-clause-next
returns-clause-next g c i is =
    let size = c.requires.size i is in
    let left : c.args.size - c.args.place ≡ length (drop c.args.place i.book) = omega (arith, size, length-drop c.args.place i.book) in
    let long : length c.read.new.buf ≡ min 6 (c.args.size - c.args.place) = search rules in
    c.next_of.ensures.next (drop c.args.place i.book) left (front_read c.read.new.buf (drop c.args.place i.book) _ 6 (c.in_ok-read.ensures.bytes i is) (omega (arith, long, left)))
