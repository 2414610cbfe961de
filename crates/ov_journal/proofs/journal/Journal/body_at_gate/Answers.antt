use Rattle.std.proofs.Common.{rules, ◌≡◌, ◌+◌, ℕ, length, take, drop, ◌∙◌, ap, arith}
use Rattle.ov_journal.proofs.Records.{behind_old, old_front}
use Rattle.ov_journal.proofs.journal.Journal.body_at_gate.Goals as goal

pub read-requires : goal.read-requires
read-requires g c i is =
    let there = c.requires.there i is in
    let range = c.body_range-start.ensures (length there.0) there.1.1 in
    let start = ap (λ (p : ℕ × ℕ). p.0) range in
    let count = ap (λ (p : ℕ × ℕ). p.1) range in
    let size : c.in_ok-size.size ≡ length c.args.out.now.items + c.body_range-start.result.1 = search rules in
    let long : length c.resize.new.self.items ≡ c.in_ok-size.size = search rules in
    let tail : length c.split_at_mut-tail.result.1.now + length c.args.out.now.items ≡ length c.resize.new.self.items = search rules in
    omega (arith, start, count, size, long, tail, there.1.0.inside)

pub returns-in-Ok-clause-bytes : goal.returns-in-Ok-clause-bytes
returns-in-Ok-clause-bytes g c i is body has =
    let range = c.body_range-start.ensures (length body) has.1 in
    let start = ap (λ (p : ℕ × ℕ). p.0) range in
    let count = ap (λ (p : ℕ × ℕ). p.1) range in
    let more : c.in_ok-size.size ≡ c.len-old.result + c.body_range-start.result.1 = search rules in
    let old : c.len-old.result ≡ length c.args.out.now.items = search rules in
    let front = old_front c.split_at_mut-tail.result.0.now c.as_mut_slice.result.now c.resize.new.self.items c.args.out.now.items _ c.len-old.result c.in_ok-size.size
    c.split_at_mut-tail.ensures.front c.as_mut_slice.ensures.value c.in_ok-resize.ensures.items old (omega (arith, more)) in
    let slice : length c.as_mut_slice.result.now ≡ c.in_ok-size.size = search rules in
    let tail : length c.split_at_mut-tail.result.1.now ≡ length body = omega (arith, c.split_at_mut-tail.ensures.back_len, slice, more, count) in
    let bytes = c.in-Ok.ensures.bytes i is ∙ (λ k. take (tail k) (drop (start k) i.book)) ∙ has.0.bytes in
    behind_old c.split_at_mut-tail.result.0.now c.read.new.buf _ c.args.out.now.items body c.resize.new.self.len front bytes (omega (arith, more, old, count, c.in_ok-resize.ensures.len))
